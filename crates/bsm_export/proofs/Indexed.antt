-- Fills and records by their numbers as numbers. Assumes nothing.
use Rattle.std.specs.Prelude.{Option, Some, None, Result, Ok, Err}
use mathlib.Core.Path.{◌≡◌, refl, sym, ap, ◌∙◌}
use mathlib.Core.List.{List}
use Prim.Native.Nat.{ℕ}
use Rattle.bsm_token.specs.declared.refusal.Refusal.{Refusal}
use Rattle.bsm_item.specs.Meaning.{item_meant, part_meant, address_meant, read_meant, run_meant, ItemRead}
use Rattle.bsm_index.specs.Fill.{Fill}
use Rattle.bsm_index.specs.Meaning.{fill_meant, FoundAt, find_meant}
use Rattle.bsm_index.specs.declared.fill.Filled.{Filled}
use Rattle.bsm_index.specs.declared.find.Found.{Found}
use Rattle.bsm_export.proofs.Refusals.{zeros}
use Rattle.bsm_export.proofs.ItemNumbers.{found_flat, end_flat, refused_flat}
use Rattle.bsm_export.specs.Items.{no_item, flat_found, flat_item, flat_outcome}
use Rattle.bsm_export.specs.Index.{flat_fill, FillTold, found_numbers}
use Rattle.bsm_export.specs.declared.item.BsmItem.{BsmItem}
use Rattle.bsm_export.specs.declared.state.BsmOutcome.{BsmOutcome}
use Rattle.bsm_export.specs.declared.index.BsmFound.{BsmFound}

pub fill_told : (x : Filled) (t : List ℕ) {f : Fill} → fill_meant x t ≡ f → {q : BsmOutcome} → q ≡ flat_outcome (run_meant x.run) → FillTold f t (record { run = q; count = x.count })
unfolding flat_fill
fill_told x t e g = record { answer = ap (λ y. record { run = y; count = x.count }) g ∙ ap flat_fill e; table = ap (λ (y : Fill). y.table) e }

-- x is the answer, j the numbers of its item, and q all its numbers
module _ (s : List ℕ) (x : Result (Option Found) Refusal) {o : FoundAt} (e : find_meant s x ≡ o) {j : BsmItem} {q : BsmFound} where
  told : (p : ℕ) (r : ItemRead) → record { place = p; found = read_meant s r } ≡ o → j ≡ flat_item (read_meant s r) → q ≡ record { item = j; place = p } → q ≡ found_numbers o
  told p r f h g = g ∙ ap (λ y. record { item = y; place = p }) h ∙ ap found_numbers f

  pub found_record : (f : Found) → x ≡ Ok (Some f) → ((t : List ℕ) → j ≡ flat_found (item_meant t f.item) (part_meant f.item) (address_meant f.item)) → q ≡ record { item = j; place = f.place } → q ≡ found_numbers o
  found_record f w h g = told f.place (Ok (Some f.item)) (ap (find_meant s) (sym w) ∙ e) (found_flat f.item refl h s) g

  pub found_end : {f : Refusal} → x ≡ Ok None → f ≡ zeros → j ≡ no_item 0 f.number f.place f.need → q ≡ record { item = j; place = 0 } → q ≡ found_numbers o
  found_end f z h g = told 0 (Ok None) (ap (find_meant s) (sym f) ∙ e) (end_flat refl z h s) g

  pub found_refused : (f : Refusal) → x ≡ Err f → j ≡ no_item 3 f.number f.place f.need → q ≡ record { item = j; place = 0 } → q ≡ found_numbers o
  found_refused f z h g = told 0 (Err f) (ap (find_meant s) (sym z) ∙ e) (refused_flat f refl h s) g

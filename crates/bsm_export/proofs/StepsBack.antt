-- Steps back as numbers. Assumes nothing.
use Rattle.std.specs.Prelude.{Result, Ok, Err}
use mathlib.Core.Path.{◌≡◌, sym, ap, ◌∙◌}
use mathlib.Core.List.{List}
use Prim.Native.Nat.{ℕ}
use Rattle.bsm_token.specs.declared.refusal.Refusal.{Refusal}
use Rattle.bsm_item.specs.Meaning.{item_meant, part_meant, address_meant}
use Rattle.bsm_item.specs.declared.item.Item.{Item as Found}
use Rattle.bsm_back.specs.Meaning.{LocatedBack, back_meant}
use Rattle.bsm_back.specs.declared.back.Before.{Before}
use Rattle.bsm_back.specs.declared.back.Before.TheVariants.{Record, Boundary}
use Rattle.bsm_export.specs.Items.{no_item, flat_found}
use Rattle.bsm_export.specs.Back.{stepped_back, flat_back}
use Rattle.bsm_export.specs.declared.item.BsmItem.{BsmItem}
use Rattle.bsm_export.specs.declared.back.BsmBefore.{BsmBefore}

-- x is a step back from the place p, and q its numbers
module _ (s : List ℕ) (p : ℕ) (x : Result Before Refusal) {o : LocatedBack} (e : back_meant s x ≡ o) where
  told : {y : Result Before Refusal} → x ≡ y → flat_back p (back_meant s y) ≡ flat_back p o
  told f = ap (flat_back p) (ap (back_meant s) (sym f) ∙ e)

  pub back_record : {j : BsmItem} {q : BsmBefore} (i : Found) (k : ℕ) → x ≡ Ok (Record i k) → ((t : List ℕ) → j ≡ flat_found (item_meant t i) (part_meant i) (address_meant i)) → q ≡ record { item = j; place = k } → q ≡ flat_back p o
  unfolding stepped_back
  back_record i k f h g = g ∙ ap (λ y. record { item = y; place = k }) (h s) ∙ told f

  pub back_boundary : {j : BsmItem} {q : BsmBefore} (n : ℕ) → x ≡ Ok (Boundary n) → j ≡ no_item 4 0 0 n → q ≡ record { item = j; place = p } → q ≡ flat_back p o
  unfolding stepped_back
  back_boundary n f h g = g ∙ ap (λ y. record { item = y; place = p }) h ∙ told f

  pub back_refused : {j : BsmItem} {q : BsmBefore} (f : Refusal) → x ≡ Err f → j ≡ no_item 3 f.number f.place f.need → q ≡ record { item = j; place = p } → q ≡ flat_back p o
  unfolding stepped_back
  back_refused f g h z = z ∙ ap (λ y. record { item = y; place = p }) h ∙ told g

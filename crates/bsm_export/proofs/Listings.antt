-- Lines and parts of a listing as numbers. Assumes nothing.
use Rattle.std.specs.Prelude.{Some, None, Ok, Err, Result}
use mathlib.Core.Path.{◌≡◌, refl, sym, ap, ap₂, ◌∙◌, subst}
use mathlib.Core.List.{List}
use Prim.Native.Nat.{ℕ}
use borrow.Author.Tests.{eq-eqb, ne_eqb}
use lib.ListN.{length}
use Rattle.bsm_token.specs.declared.refusal.Refusal.{Refusal}
use Rattle.bsm_item.specs.Item.{Answer, item_at}
use Rattle.bsm_item.specs.Reading.{State, fresh, Outcome as Stop}
use Rattle.bsm_item.specs.Meaning.{item_meant, located, read_meant, state_meant, ending_meant, run_meant, ItemRead}
use Rattle.bsm_item.specs.declared.item.Item.{Item as Found}
use Rattle.bsm_item.specs.declared.state.State.{State as Place}
use Rattle.bsm_item.specs.declared.state.Run.{Run}
use Rattle.bsm_bytes.specs.Write.{code, denied, answer_meant, Written}
use Rattle.bsm_listing.specs.Line.{item_line, last_line}
use Rattle.bsm_listing.specs.Listing.{Cursor, first, at_state, done, lines_of}
use Rattle.bsm_listing.specs.Meaning.{cursor_meant, Listed}
use Rattle.bsm_listing.specs.declared.listing.Cursor.{Cursor as CursorCode}
use Rattle.bsm_listing.specs.declared.listing.Cursor.TheVariants.{First, At, Done}
use Rattle.bsm_listing.specs.declared.listing.Listing.{Listing}
use Rattle.bsm_export.specs.Written.{flat_written, Exported}
use Rattle.bsm_export.specs.Lines.{line_answer, line_left, ItemLined, last_draft, cursor_from, flat_listing, PartListed}
use Rattle.bsm_export.specs.declared.answer.BsmWritten.{BsmWritten}
use Rattle.bsm_export.specs.declared.lines.BsmListing.{BsmListing}
use Rattle.bsm_export.proofs.Refusals.{zeros, by_numbers}
use Rattle.bsm_export.proofs.Answers.{numbers, exported}

-- ---- one line

module _ (s : List ℕ) (p : ℕ) (x : ItemRead) (e : read_meant s x ≡ located p (item_at s p)) where
  found : {y : ItemRead} → x ≡ y → item_at s p ≡ (read_meant s y).answer
  found f = sym (ap (λ y. y.answer) e) ∙ ap (λ y. (read_meant s y).answer) f

  module _ {r : BsmWritten} where
    lined : {d d' : List ℕ} {a : Answer} → item_at s p ≡ a → r ≡ flat_written (line_answer (length d) p a) → d' ≡ line_left d p a → ItemLined s p d d' r
    lined f g h = record { answer = rw f g; left = rw f h }

    pub line_found : (i : Found) {d d' : List ℕ} {a : Result ℕ Refusal} → x ≡ Ok (Some i) → ((t : List ℕ) → Written (code (item_line p (item_meant t i))) d d' a) → r ≡ flat_written (answer_meant a)
        → ItemLined s p d d' r
    unfolding line_answer line_left
    line_found i f w g = lined (found f) (exported (w s) g).answer (exported (w s) g).left

    pub line_end : (d : List ℕ) {f : Refusal} → x ≡ Ok None → f ≡ zeros → r ≡ numbers 0 f → ItemLined s p d d r
    unfolding line_answer line_left flat_written
    line_end d f z g = lined (found f) (g ∙ ap (numbers 0) z) refl

    pub line_refused : (d : List ℕ) (f : Refusal) → x ≡ Err f → r ≡ numbers 0 f → ItemLined s p d d r
    unfolding line_answer line_left flat_written
    line_refused d f g h =
        lined (found g)
        (h ∙ by_numbers (λ a. flat_written (line_answer (length d) p a)) (λ k q n. flat_written (denied k q n)) (λ q n. refl) (λ k q n. refl) f)
        (by_numbers (line_left d p) (λ k q n. d) (λ q n. refl) (λ k q n. refl) f)

pub last_lined : (x : Run) {o : Stop} {d d' : List ℕ} {a : Result ℕ Refusal} {r : BsmWritten} → run_meant x ≡ o → Written (code (last_line (state_meant x.state) (ending_meant x.ending))) d d' a
    → r ≡ flat_written (answer_meant a) → Exported (last_draft o) d d' r
unfolding last_draft
last_lined x {o} {d} {d'} {a} {r} e w g = subst (λ y. Exported (last_draft y) d d' r) e (exported w g)

-- ---- parts

module _ (k : ℕ) (st : State) where
  pub stage_first : k ≡ 0 → first ≡ cursor_from k st
  unfolding cursor_from
  stage_first e = rw (eq-eqb k 0 e)

  pub stage_at : (k ≡ 0 → ⊥) → k ≡ 1 → at_state st ≡ cursor_from k st
  unfolding cursor_from
  stage_at n e = rw (ne_eqb k 0 n, eq-eqb k 1 e)

  pub stage_done : (k ≡ 0 → ⊥) → (k ≡ 1 → ⊥) → done ≡ cursor_from k st
  unfolding cursor_from
  stage_done n m = rw (ne_eqb k 0 n, ne_eqb k 1 m)

abbrev pub state_numbers : ℕ → Place → ℕ → BsmListing
state_numbers stage st written = record { stage = stage; place = st.place; records = st.records; files = st.files; written = written }

module _ (l : Listing) {st : Place} {r : BsmListing} where
  pub listed_first : l.cursor ≡ First → state_meant st ≡ fresh → r ≡ state_numbers 0 st l.written → r ≡ flat_listing (cursor_meant l.cursor) l.written
  unfolding flat_listing
  listed_first e z h =
      h ∙ ap (λ y. record { stage = 0; place = y.place; records = y.records; files = y.files; written = l.written }) z
      ∙ ap (λ c. flat_listing (cursor_meant c) l.written) (sym e)

  pub listed_at : l.cursor ≡ At st → r ≡ state_numbers 1 st l.written → r ≡ flat_listing (cursor_meant l.cursor) l.written
  unfolding flat_listing
  listed_at e h = h ∙ ap (λ c. flat_listing (cursor_meant c) l.written) (sym e)

  pub listed_done : l.cursor ≡ Done → state_meant st ≡ fresh → r ≡ state_numbers 2 st l.written → r ≡ flat_listing (cursor_meant l.cursor) l.written
  unfolding flat_listing
  listed_done e z h =
      h ∙ ap (λ y. record { stage = 2; place = y.place; records = y.records; files = y.files; written = l.written }) z
      ∙ ap (λ c. flat_listing (cursor_meant c) l.written) (sym e)

pub part_listed : (s : List ℕ) (n : ℕ) (c : CursorCode) {k : Cursor} {d d' : List ℕ} {l : Listing} {r : BsmListing} → cursor_meant c ≡ k → Listed (lines_of s n (cursor_meant c)) d d' l
    → r ≡ flat_listing (cursor_meant l.cursor) l.written → PartListed (lines_of s n k) d d' r
part_listed s n c {k} {d} {d'} {l} {r} e h g =
    subst (λ y. PartListed (lines_of s n y) d d' r) e (record { answer = g ∙ ap₂ flat_listing h.cursor h.written; left = h.left })

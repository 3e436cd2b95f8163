-- Items and answers at a place as numbers. Assumes nothing.
use Rattle.std.specs.Prelude.{Some, None, Ok, Err}
use mathlib.Core.Path.{◌≡◌, refl, sym, ap, ◌∙◌}
use mathlib.Core.List.{List, [], ◌∷◌}
use Prim.Native.Nat.{ℕ}
use Rattle.bsm_token.specs.declared.refusal.Refusal.{Refusal}
use Rattle.bsm_item.specs.Item.{item_at}
use Rattle.bsm_item.specs.Meaning.{head_meant, no_part, address_part, part_meant, address_meant, item_meant, located, read_meant, ItemRead}
use Rattle.bsm_item.specs.declared.item.Header.{Header}
use Rattle.bsm_item.specs.declared.item.Item.{Item as Found}
use Rattle.bsm_item.specs.declared.item.Item.TheVariants.{File, Record}
use Rattle.bsm_export.specs.Items.{found_item, no_item, flat_found, flat_answer, flat_item}
use Rattle.bsm_export.specs.declared.item.BsmItem.{BsmItem}
use Rattle.bsm_export.proofs.Refusals.{zeros, by_numbers}

module _ {q : BsmItem} where
  -- ---- by the item

  pub file_flat : {i : Found} (n x y a l : ℕ) → i ≡ File n x y a l → q ≡ found_item 1 n 0 (0 ∷ 0 ∷ 0 ∷ x ∷ y ∷ []) 0 (record { start = a; length = l }) no_part
      → (s : List ℕ) → q ≡ flat_found (item_meant s i) (part_meant i) (address_meant i)
  unfolding flat_found
  file_flat n x y a l e h s = h ∙ ap (λ j. flat_found (item_meant s j) (part_meant j) (address_meant j)) (sym e)

  pub record_flat : {i : Found} (n : ℕ) (d : Header) (c a l : ℕ) → i ≡ Record n d c a l
      → q ≡ found_item 2 n d.number (d.version ∷ d.event ∷ d.modifier ∷ d.seconds ∷ d.nanoseconds ∷ []) c (record { start = a; length = l }) (address_part d a)
      → (s : List ℕ) → q ≡ flat_found (item_meant s i) (part_meant i) (address_meant i)
  unfolding flat_found head_meant
  record_flat n d c a l e h s = h ∙ ap (λ j. flat_found (item_meant s j) (part_meant j) (address_meant j)) (sym e)

  -- ---- by the answer

  pub found_flat : {r : ItemRead} (i : Found) → r ≡ Ok (Some i) → ((s : List ℕ) → q ≡ flat_found (item_meant s i) (part_meant i) (address_meant i)) → (s : List ℕ) → q ≡ flat_item (read_meant s r)
  unfolding flat_answer
  found_flat i e h s = h s ∙ ap (λ x. flat_item (read_meant s x)) (sym e)

  pub end_flat : {r : ItemRead} {f : Refusal} → r ≡ Ok None → f ≡ zeros → q ≡ no_item 0 f.number f.place f.need
      → (s : List ℕ) → q ≡ flat_item (read_meant s r)
  unfolding flat_answer
  end_flat e z h s = h ∙ ap (λ x. no_item 0 x.number x.place x.need) z ∙ ap (λ x. flat_item (read_meant s x)) (sym e)

  pub refused_flat : {r : ItemRead} (f : Refusal) → r ≡ Err f → q ≡ no_item 3 f.number f.place f.need → (s : List ℕ) → q ≡ flat_item (read_meant s r)
  unfolding flat_answer
  refused_flat f e h s =
      h ∙ by_numbers (λ a. flat_answer a no_part no_part) (no_item 3) (λ p n. refl) (λ e p n. refl) f ∙ ap (λ x. flat_item (read_meant s x)) (sym e)

  -- r is the answer at the place p
  module _ (s : List ℕ) (p : ℕ) (r : ItemRead) (e : read_meant s r ≡ located p (item_at s p)) where
    pub found_here : {i : Found} → r ≡ Ok (Some i) → ((s : List ℕ) → q ≡ flat_found (item_meant s i) (part_meant i) (address_meant i)) → q ≡ flat_item (located p (item_at s p))
    found_here {i} f h = found_flat i f h s ∙ ap flat_item e

    pub end_here : {f : Refusal} → r ≡ Ok None → f ≡ zeros → q ≡ no_item 0 f.number f.place f.need → q ≡ flat_item (located p (item_at s p))
    end_here f z h = end_flat f z h s ∙ ap flat_item e

    pub refused_here : {f : Refusal} → r ≡ Err f → q ≡ no_item 3 f.number f.place f.need → q ≡ flat_item (located p (item_at s p))
    refused_here {f} g h = refused_flat f g h s ∙ ap flat_item e

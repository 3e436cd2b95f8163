-- Where bodies, names and strings stand. Assumes nothing.
use Rattle.std.specs.Prelude.{Some, None, Ok, Err}
use mathlib.Core.Path.{◌≡◌, refl, sym, ap, ap₂, ◌∙◌}
use mathlib.Core.Bool.{Bool, true, false}
use mathlib.Core.List.{List, []}
use Prim.Native.Nat.{ℕ}
use lib.ListN.{length, take, drop}
use lib.Seq.{drop-drop}
use Rattle.bsm_field.specs.Number.{field}
use Rattle.bsm_token.specs.Layout.{row_of, fixed}
use Rattle.bsm_token.specs.Token.{Token, Extent, extent_of, TokenAnswer, token, end as tokenEnd, refusal as tokenRefusal, token_at, has_string, tail_if, start_if, string_of, string_start}
use Rattle.bsm_token.specs.Flat.{flat_token}
use Rattle.bsm_token.specs.declared.flat.FlatToken.{FlatToken}
use Rattle.bsm_token.specs.declared.refusal.Refusal.{Refusal}
use Rattle.bsm_token.proofs.Reader.{token_at_lem}
use Rattle.bsm_token.proofs.Tokens.{size_some, tail_take, tail_length_lem}
use Rattle.bsm_item.specs.Item.{Answer, item, end, short, refusal, item_at}
use Rattle.bsm_item.specs.Meaning.{head_meant, address_part, item_meant, part_meant, address_meant, refusal_meant, part_for, address_for, located, read_meant, ItemRead}
use Rattle.bsm_item.specs.declared.item.Header.{Header}
use Rattle.bsm_item.specs.declared.item.Item.{Item as Found}
use Rattle.bsm_item.specs.declared.item.Item.TheVariants.{File, Record}
use Rattle.bsm_export.specs.Items.{PartTold, body_of, body_start, name_of, name_start, address_told, address_at}
use Rattle.bsm_export.specs.declared.item.BsmPart.{BsmPart}
use Rattle.bsm_export.proofs.Refusals.{by_numbers}

abbrev part : ℕ → ℕ → BsmPart
part a n = record { start = a; length = n }

nothing_told : (s : List ℕ) {q : BsmPart} → q ≡ part 0 0 → PartTold s [] 0 q
nothing_told s e = rw e (record { start = refl; long = refl; bytes = refl })

-- ---- the part of an item

module _ (s : List ℕ) (p : ℕ) (r : ItemRead) (e : read_meant s r ≡ located p (item_at s p)) where
  answer : {y : ItemRead} → r ≡ y → item_at s p ≡ (read_meant s y).answer
  answer f = sym (ap (λ y. y.answer) e) ∙ ap (λ y. (read_meant s y).answer) f

  -- where the part of the item i stands
  place_of : (i : Found) → r ≡ Ok (Some i) → part_meant i ≡ part_for p (item (item_meant s i))
  place_of i f = ap (λ y. (read_meant s y).part) (sym f) ∙ ap (λ y. y.part) e ∙ ap (part_for p) (answer f)

  -- where its address stands
  address_place : (i : Found) → r ≡ Ok (Some i) → address_meant i ≡ address_for p (item (item_meant s i))
  address_place i f = ap (λ y. (read_meant s y).address) (sym f) ∙ ap (λ y. y.address) e ∙ ap (address_for p) (answer f)

  -- a part, by its bytes and its start, for each answer
  module _ (bytes : Answer → List ℕ) (start : Answer → ℕ) {q : BsmPart} where
    told_at : {a : Answer} → item_at s p ≡ a → PartTold s (bytes a) (start a) q → PartTold s (bytes (item_at s p)) (start (item_at s p)) q
    told_at f h = rw f h

    none_at : (a : Answer) → item_at s p ≡ a → [] ≡ bytes a → 0 ≡ start a → q ≡ part 0 0 → PartTold s (bytes (item_at s p)) (start (item_at s p)) q
    none_at a f b c h = told_at f (rw (← b, ← c) (nothing_told s h))

    -- none where something is refused
    refused_at : (f : Refusal) → r ≡ Err f → ((k n : ℕ) → ([] ≡ bytes (short k n)) × (0 ≡ start (short k n))) → ((j k n : ℕ) → ([] ≡ bytes (refusal j k n)) × (0 ≡ start (refusal j k n))) → q ≡ part 0 0
        → PartTold s (bytes (item_at s p)) (start (item_at s p)) q
    refused_at f g x y h =
        none_at (refusal_meant f) (answer g) (by_numbers bytes (λ j k n. []) (λ k n. (x k n).0) (λ j k n. (y j k n).0) f)
        (by_numbers start (λ j k n. 0) (λ k n. (x k n).1) (λ j k n. (y j k n).1) f) h

  module _ {q : BsmPart} where
    pub body_of_lem : (i : Found) (n : ℕ) (d : Header) (c a l : ℕ) → r ≡ Ok (Some i) → i ≡ Record n d c a l → q ≡ part a l → PartTold s (body_of (item_at s p)) (body_start p (item_at s p)) q
    unfolding body_of body_start
    body_of_lem i n d c a l f g h =
        let w = place_of (Record n d c a l) (f ∙ ap (λ y. Ok (Some y)) g) in
        told_at body_of (body_start p) (answer (f ∙ ap (λ y. Ok (Some y)) g)) (rw h (record { start = ap (λ y. y.start) w; long = ap (λ y. y.length) w; bytes = refl }))

    pub body_none : (i : Found) (n x y a l : ℕ) → r ≡ Ok (Some i) → i ≡ File n x y a l → q ≡ part 0 0 → PartTold s (body_of (item_at s p)) (body_start p (item_at s p)) q
    unfolding body_of body_start
    body_none i n x y a l f g h = told_at body_of (body_start p) (answer (f ∙ ap (λ y. Ok (Some y)) g)) (nothing_told s h)

    pub body_end_lem : r ≡ Ok None → q ≡ part 0 0 → PartTold s (body_of (item_at s p)) (body_start p (item_at s p)) q
    unfolding body_of body_start
    body_end_lem f h = none_at body_of (body_start p) end (answer f) refl refl h

    pub body_refused : (f : Refusal) → r ≡ Err f → q ≡ part 0 0 → PartTold s (body_of (item_at s p)) (body_start p (item_at s p)) q
    unfolding body_of body_start
    body_refused f g h = refused_at body_of (body_start p) f g (λ k n. (refl, refl)) (λ j k n. (refl, refl)) h

    pub name_of_lem : (i : Found) (n x y a l : ℕ) → r ≡ Ok (Some i) → i ≡ File n x y a l → q ≡ part a l → PartTold s (name_of (item_at s p)) (name_start p (item_at s p)) q
    unfolding name_of name_start
    name_of_lem i n x y a l f g h =
        let w = place_of (File n x y a l) (f ∙ ap (λ y. Ok (Some y)) g) in
        told_at name_of (name_start p) (answer (f ∙ ap (λ y. Ok (Some y)) g)) (rw h (record { start = ap (λ y. y.start) w; long = ap (λ y. y.length) w; bytes = refl }))

    pub name_none : (i : Found) (n : ℕ) (d : Header) (c a l : ℕ) → r ≡ Ok (Some i) → i ≡ Record n d c a l → q ≡ part 0 0 → PartTold s (name_of (item_at s p)) (name_start p (item_at s p)) q
    unfolding name_of name_start
    name_none i n d c a l f g h = told_at name_of (name_start p) (answer (f ∙ ap (λ y. Ok (Some y)) g)) (nothing_told s h)

    pub name_end : r ≡ Ok None → q ≡ part 0 0 → PartTold s (name_of (item_at s p)) (name_start p (item_at s p)) q
    unfolding name_of name_start
    name_end f h = none_at name_of (name_start p) end (answer f) refl refl h

    pub name_refused : (f : Refusal) → r ≡ Err f → q ≡ part 0 0 → PartTold s (name_of (item_at s p)) (name_start p (item_at s p)) q
    unfolding name_of name_start
    name_refused f g h = refused_at name_of (name_start p) f g (λ k n. (refl, refl)) (λ j k n. (refl, refl)) h

    pub address_of_lem : (i : Found) (n : ℕ) (d : Header) (c a l : ℕ) → r ≡ Ok (Some i) → i ≡ Record n d c a l → {b : ℕ} → b ≡ (address_part d a).start → q ≡ part b d.address
        → PartTold s (address_told (item_at s p)) (address_at p (item_at s p)) q
    unfolding address_told head_meant
    address_of_lem i n d c a l f g k h =
        let w = address_place (Record n d c a l) (f ∙ ap (λ y. Ok (Some y)) g) in
        told_at address_told (address_at p) (answer (f ∙ ap (λ y. Ok (Some y)) g))
        (rw (h, k) (record { start = ap (λ y. y.start) w; long = ap (λ y. y.length) w; bytes = refl }))

    pub address_none : (i : Found) (n x y a l : ℕ) → r ≡ Ok (Some i) → i ≡ File n x y a l → q ≡ part 0 0 → PartTold s (address_told (item_at s p)) (address_at p (item_at s p)) q
    unfolding address_told
    address_none i n x y a l f g h = told_at address_told (address_at p) (answer (f ∙ ap (λ y. Ok (Some y)) g)) (nothing_told s h)

    pub address_end : r ≡ Ok None → q ≡ part 0 0 → PartTold s (address_told (item_at s p)) (address_at p (item_at s p)) q
    unfolding address_told
    address_end f h = none_at address_told (address_at p) end (answer f) refl refl h

    pub address_refused : (f : Refusal) → r ≡ Err f → q ≡ part 0 0 → PartTold s (address_told (item_at s p)) (address_at p (item_at s p)) q
    unfolding address_told
    address_refused f g h = refused_at address_told (address_at p) f g (λ k n. (refl, refl)) (λ j k n. (refl, refl)) h

    pub ruleset body-says = (body_of_lem, body_none, body_end_lem, body_refused)

    pub ruleset name-says = (name_of_lem, name_none, name_end, name_refused)

    pub ruleset address-says = (address_of_lem, address_none, address_end, address_refused)

-- ---- the string of a token

-- the tail of a token at p
tail_stands : (s : List ℕ) (p : ℕ) {t : Token} {x : Extent} {q : BsmPart} → token_at s p ≡ token t x → q ≡ part x.start x.length → PartTold s t.tail x.start q
unfolding extent_of
tail_stands s p {t} {x} f e =
    let h = token_at_lem s p f in
    let k = (size_some (drop p s) h.1).1 in
    let l = ap (λ y. y.length) (sym h.3) in
    let d = ap (λ y. drop y.start s) (sym h.3) ∙ sym (drop-drop (fixed (row_of (field 1 0 (drop p s)))) p s) in
    rw e
    (record {
      start = refl;
      long = l ∙ sym (tail_length_lem (drop p s) k) ∙ ap (λ y. length y.tail) h.2;
      bytes = ap₂ (λ n y. take n y) l d ∙ sym (tail_take (drop p s) k) ∙ ap (λ y. y.tail) h.2;
    })

-- r is the answer at p, and b says whether it is a path or a text; at the end and for a refusal its numbers are 0
module _ (s : List ℕ) (p : ℕ) (r : FlatToken) (e : r ≡ flat_token (token_at s p)) (b : Bool) (g : b ≡ has_string r.token) where
  has : {v : Bool} {t : Token} {x : Extent} → b ≡ v → token_at s p ≡ token t x → has_string t.number ≡ v
  unfolding flat_token
  has h f = ap (λ a. has_string (flat_token a).token) (sym f) ∙ ap (λ y. has_string y.token) (sym e) ∙ sym g ∙ h

  pub string_at : {q : BsmPart} → b ≡ true → q ≡ part r.start r.length → PartTold s (string_of (token_at s p)) (string_start (token_at s p)) q
  unfolding flat_token tail_if start_if
  string_at {q} h z = go (token_at s p) refl (z ∙ ap (λ y. part y.start y.length) e)
    where
      go : (a : TokenAnswer) → token_at s p ≡ a → q ≡ part (flat_token a).start (flat_token a).length → PartTold s (string_of a) (string_start a) q
      go (token t x) f z = rw (has h f) (tail_stands s p f z)
      go tokenEnd f z = nothing_told s z
      go (tokenRefusal i j k) f z = nothing_told s z

  pub string_none : {q : BsmPart} → b ≡ false → q ≡ part 0 0 → PartTold s (string_of (token_at s p)) (string_start (token_at s p)) q
  unfolding tail_if start_if
  string_none {q} h z = go (token_at s p) refl
    where
      go : (a : TokenAnswer) → token_at s p ≡ a → PartTold s (string_of a) (string_start a) q
      go (token t x) f = rw (has h f) (nothing_told s z)
      go tokenEnd f = nothing_told s z
      go (tokenRefusal i j k) f = nothing_told s z

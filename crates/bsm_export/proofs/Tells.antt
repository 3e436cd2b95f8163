-- A refusal's number is never 0, no field of a token is left out, and stages are read back. Assumes nothing.
use Rattle.std.specs.Prelude.{Err}
use mathlib.Core.Path.{◌≡◌, refl, sym, ap, ◌∙◌}
use mathlib.Core.Bool.{Bool, true, false}
use mathlib.Core.Logic.{◌≢◌, inl, inr, ⊎_elim}
use mathlib.Core.List.{List, [], ◌∷◌}
use Prim.Native.Nat.{ℕ, zero, suc, ◌+◌, ◌-◌, ◌*◌, ◌≤◌, ◌<◌}
use native.Mathlib.Omega.{arith}
use lib.Dec.{leb, ltb, eqb}
use lib.ListN.{length, get_or, drop}
use Rattle.bsm_field.specs.Number.{if_else, field, fields, sum}
use Rattle.bsm_token.specs.Layout.{row_of, behind}
use Rattle.bsm_token.specs.Token.{Token, Extent, token_of, extent_of, TokenAnswer, token, end as tokenEnd, refusal as tokenRefusal, token_at, Walk, tokens, refused as bad, walk}
use Rattle.bsm_token.specs.Flat.{flat_token}
use Rattle.bsm_token.specs.Demands.{TokenNumber}
use Rattle.bsm_token.specs.declared.refusal.Refusal.{Refusal}
use Rattle.bsm_token.proofs.Faults.{BodyNumber, body_fault}
use Rattle.bsm_token.proofs.Answers.{widths_few, behind_few}
use Rattle.bsm_token.proofs.Reader.{token_at_lem, token_numbers_lem}
use Rattle.bsm_item.specs.Item.{Item, file_item, record_item, Answer, item, end, short, refusal, item_at}
use Rattle.bsm_item.specs.Meaning.{part_for, address_for, located}
use Rattle.bsm_item.specs.Reading.{State, Placed, answer_at, plain, stop_of}
use Rattle.bsm_item.proofs.Longer.{refusal_numbers}
use Rattle.bsm_item.proofs.Runs.{Stops, plain_last}
use Rattle.bsm_back.specs.Back.{Back, found, boundary, refused, record_before}
use Rattle.bsm_back.specs.Meaning.{located_back}
use Rattle.bsm_back.proofs.Depends.{only_beyond}
use Rattle.bsm_index.specs.Fill.{records_of, too_small, fill_by, fill_of}
use Rattle.bsm_index.specs.Find.{found as foundRecord, missing, nth, nth_record, from, record_from, filled, nearest, by_entry, by_filled, find_record}
use Rattle.bsm_index.specs.Meaning.{found_at}
use Rattle.bsm_bytes.specs.Write.{Draft, code, Reply, wrote, denied, answer_in, Written}
use Rattle.bsm_draft.specs.Given.{token_draft}
use Rattle.bsm_draft.specs.Items.{file_draft, record_draft}
use Rattle.bsm_draft.specs.Demands.{Among}
use Rattle.bsm_draft.proofs.Refusals.{token_refusals, file_refusals, record_refusals}
use Rattle.bsm_listing.specs.Line.{item_line}
use Rattle.bsm_listing.specs.Listing.{Cursor, first, at_state, done}
use Rattle.bsm_export.specs.Items.{flat_found, flat_answer, flat_item, state_at, stopped_by, flat_outcome}
use Rattle.bsm_export.specs.Back.{stepped_back, flat_back}
use Rattle.bsm_export.specs.Index.{flat_fill, found_numbers}
use Rattle.bsm_export.specs.Written.{flat_written, flat_walk}
use Rattle.bsm_export.specs.Lines.{line_answer, ItemLined, cursor_from, flat_listing}
use Rattle.bsm_export.specs.Told.{Tells, NumbersTell}
use Rattle.bsm_export.specs.declared.answer.BsmWritten.{BsmWritten}

-- ---- reading

item_number : (s : List ℕ) (p e q n : ℕ) → item_at s p ≡ refusal e q n → e ≢ 0
item_number s p e q n f z =
    ⊎_elim (λ w. omega (arith, w.0)) (λ w. ⊎_elim (λ x. omega (arith, x.0)) (λ x. omega arith) w) (refusal_numbers s p e q n f).listed

items_tell : (s : List ℕ) (p : ℕ) → (flat_item (located p (item_at s p))).number ≡ 0 → (flat_item (located p (item_at s p))).kind ≢ 3
unfolding flat_answer flat_found
items_tell s p = go (item_at s p) refl
  where
    go : (a : Answer) → item_at s p ≡ a → (flat_item (located p a)).number ≡ 0 → (flat_item (located p a)).kind ≢ 3
    go (item (file_item n vs name)) e z k = omega arith
    go (item (record_item n h b c)) e z k = omega arith
    go end e z k = omega arith
    go (short q n) e z k = omega arith
    go (refusal j q n) e z k = item_number s p j q n e z

backs_tell : (s : List ℕ) (p : ℕ) → (flat_back p (located_back (record_before s p))).item.number ≡ 0 → (flat_back p (located_back (record_before s p))).item.kind ≢ 3
unfolding stepped_back located_back flat_found
backs_tell s p = go (record_before s p) refl
  where
    go : (a : Back) → record_before s p ≡ a → (flat_back p (located_back a)).item.number ≡ 0 → (flat_back p (located_back a)).item.kind ≢ 3
    go (found i) e z k = of i.what z k
      where
        at : Answer
        at = item i.what

        of : (j : Item) → (flat_found j (part_for i.place at) (address_for i.place at)).number ≡ 0 → (flat_found j (part_for i.place at) (address_for i.place at)).kind ≢ 3
        of (file_item n vs name) z k = omega arith
        of (record_item n h b c) z k = omega arith
    go (boundary n) e z k = omega arith
    go (refused j q n) e z k = omega (arith, ((only_beyond s p j q n).0 e).1)

token_number : {e : ℕ} → TokenNumber e → e ≢ 0
token_number w z = ⊎_elim (λ x. omega (arith, x.0)) (λ x. omega arith) w

body_number : {e : ℕ} → BodyNumber e → e ≢ 0
body_number w z = ⊎_elim (λ x. omega (arith, x.0)) (λ x. omega (arith, x.0)) w

tokens_tell : (s : List ℕ) (p : ℕ) → (flat_token (token_at s p)).number ≡ 0 → (flat_token (token_at s p)).kind ≢ 3
unfolding flat_token
tokens_tell s p = go (token_at s p) refl
  where
    go : (a : TokenAnswer) → token_at s p ≡ a → (flat_token a).number ≡ 0 → (flat_token a).kind ≢ 3
    go (token t x) e z k = omega arith
    go tokenEnd e z k = omega arith
    go (tokenRefusal j q n) e z k = ⊎_elim (λ w. omega (arith, w.0)) (λ w. token_number w.0 z) (token_numbers_lem s p j q n e).listed

-- no field of a token is left out
length_fields : (ws : List ℕ) (k : ℕ) (s : List ℕ) → length (fields ws k s) ≡ length ws
unfolding fields
length_fields [] k s = refl
length_fields (w ∷ ws) k s = ap suc (length_fields ws (k + w) s)

fields_whole : (s : List ℕ) (p : ℕ) (t : Token) (x : Extent) → token_at s p ≡ token t x → (length t.values ≤ 10) × (length x.counts ≤ 1)
unfolding token_of extent_of
fields_whole s p t x e =
    let u = drop p s in
    let n = field 1 0 u in
    let r = row_of n in
    let w = token_at_lem s p e in
    let v : length t.values ≡ length r.widths = ap (λ y. length y.values) (sym w.2) ∙ length_fields r.widths 1 u in
    let c : length x.counts ≡ length (behind r.class) = ap (λ y. length y.counts) (sym w.3) ∙ length_fields (behind r.class) (1 + sum r.widths) u in
    (omega (arith, v, widths_few n), omega (arith, c, behind_few r.class))

bodies_tell : (s : List ℕ) → (flat_walk (walk s)).number ≡ 0 → walk s ≡ tokens (flat_walk (walk s)).written
unfolding flat_walk flat_written
bodies_tell s = go (walk s) refl
  where
    go : (w : Walk) → walk s ≡ w → (flat_walk w).number ≡ 0 → w ≡ tokens (flat_walk w).written
    go (tokens n) e z = refl
    go (bad f) e z = absurd (body_number (body_fault s e).number z)

-- a refusal at a state is 2 for its totals, or one at its place
state_number : (s : List ℕ) (st : State) (e q n : ℕ) → answer_at s st ≡ refusal e q n → e ≢ 0
unfolding answer_at
state_number s st e q n f z = go (ltb st.place (st.records + st.files)) f
  where
    go : (b : Bool) → if_else b (refusal 2 st.place 0) (item_at s st.place) ≡ refusal e q n → ⊥
    go true g = let k : 2 ≡ e = cc in omega arith
    go false g = item_number s st.place e q n g z

runs_tell : (s : List ℕ) (st : State) → (flat_outcome (stop_of (plain s st))).number ≡ 0 → (plain s st).answer ≡ end
unfolding flat_outcome stopped_by
runs_tell s st = let w = plain_last s st in go (plain s st).answer w.0 w.1
  where
    last : State
    last = (plain s st).state

    go : (a : Answer) → answer_at s last ≡ a → Stops a → (stopped_by last a).number ≡ 0 → a ≡ end
    go (item i) e h z = absurd (h i refl)
    go end e h z = refl
    go (short q n) e h z = absurd (omega arith)
    go (refusal k q n) e h z = absurd (state_number s last k q n e z)

-- ---- an index

fills_tell : (s : List ℕ) (st : State) (t : List ℕ) → (flat_fill (fill_of s st t)).run.number ≡ 0 → (fill_of s st t).outcome.answer ≡ end
unfolding fill_of fill_by flat_fill flat_outcome stopped_by
fills_tell s st t = go (too_small (plain s st) t)
  where
    go : (b : Bool) → (flat_fill (fill_by b (plain s st) st t)).run.number ≡ 0 → (fill_by b (plain s st) st t).outcome.answer ≡ end
    go true z = absurd (omega arith)
    go false z = runs_tell s st z

-- counted from a place on
from_tells : (s : List ℕ) (p n : ℕ) → (found_numbers (found_at (record_from s p n))).item.number ≡ 0 → (found_numbers (found_at (record_from s p n))).item.kind ≢ 3
unfolding record_from nth_record nth found_at flat_answer flat_found
from_tells s p n = let w = plain_last s (from p) in go (records_of (plain s (from p)).items) n (plain s (from p)).answer w.0
  where
    last : State
    last = (plain s (from p)).state

    record_tells : (i : Placed) → (found_numbers (found_at (foundRecord i))).item.kind ≢ 3
    record_tells i = of i.what
      where
        of : (j : Item) → (flat_item (located i.place (item j))).kind ≢ 3
        of (file_item m vs name) k = omega arith
        of (record_item m h b c) k = omega arith

    stop_tells : (a : Answer) → answer_at s last ≡ a → (found_numbers (found_at (missing a))).item.number ≡ 0 → (found_numbers (found_at (missing a))).item.kind ≢ 3
    stop_tells (item (file_item m vs name)) e z k = omega arith
    stop_tells (item (record_item m h b c)) e z k = omega arith
    stop_tells end e z k = omega arith
    stop_tells (short q m) e z k = omega arith
    stop_tells (refusal j q m) e z k = state_number s last j q m e z

    go : (is : List Placed) (m : ℕ) (a : Answer) → answer_at s last ≡ a → (found_numbers (found_at (nth is m a))).item.number ≡ 0 → (found_numbers (found_at (nth is m a))).item.kind ≢ 3
    go [] m a e z = stop_tells a e z
    go (i ∷ is) zero a e z = record_tells i
    go (i ∷ is) (suc m) a e z = go is m a e z

finds_tell : (s t : List ℕ) (c n : ℕ) → (found_numbers (found_at (find_record s t c n))).item.number ≡ 0 → (found_numbers (found_at (find_record s t c n))).item.kind ≢ 3
unfolding find_record by_filled by_entry
finds_tell s t c n = go (eqb (filled t c) 0)
  where
    k : ℕ
    k = nearest (filled t c) n

    go : (b : Bool) → (found_numbers (found_at (if_else b (record_from s 0 n) (by_entry s t k n)))).item.number ≡ 0 → (found_numbers (found_at (if_else b (record_from s 0 n) (by_entry s t k n)))).item.kind ≢ 3
    go true z = from_tells s 0 n z
    go false z = from_tells s (get_or t k 0) (n - 64 * k) z

-- ---- writing

-- an outcome that is never a refusal with the number 0
wrote_some : (o : Reply) (r : BsmWritten) → ((k q n : ℕ) → o ≡ denied k q n → k ≢ 0) → r ≡ flat_written o → r.number ≡ 0 → o ≡ wrote r.written
unfolding flat_written
wrote_some (wrote n) r h f z = ap (λ y. wrote y.written) (sym f)
wrote_some (denied k q n) r h f z = absurd (h k q n refl (sym (ap (λ y. y.number) f) ∙ z))

tells : (p : Draft) → ((d d' : List ℕ) (f : Refusal) → Written p d d' (Err f) → f.number ≢ 0) → Tells p
tells p h d d' r x z =
    wrote_some (answer_in (length d) p) r
    (λ k q n e. h d d' (record { number = k; place = q; need = n }) (record { answer = sym e; left = x.left })) x.answer z

-- none of these numbers is 0
abbrev Above : List ℕ → Type 0
Above [] = Unit {0}
Above (n ∷ ns) = (0 < n) × Above ns

among_above : (ns : List ℕ) (x : ℕ) → Above ns → Among ns x → x ≢ 0
among_above [] x a m z = m
among_above (n ∷ ns) x a (inl e) z = omega (arith, a.0)
among_above (n ∷ ns) x a (inr m) z = among_above ns x a.1 m z

code_number : (room : ℕ) (bs : List ℕ) (k q n : ℕ) → answer_in room (code bs) ≡ denied k q n → k ≢ 0
code_number room bs k q n = go (leb (length bs) room)
  where
    go : (b : Bool) → if_else b (wrote (length bs)) (denied 10 0 0) ≡ denied k q n → k ≢ 0
    go true e z = let y : ◌≡◌ {A = ℕ} 0 1 = cc in omega arith
    go false e z = let y : 10 ≡ k = cc in omega arith

lines_tell : (bs : List ℕ) → Tells (code bs)
lines_tell bs d d' r x z = wrote_some (answer_in (length d) (code bs)) r (code_number (length d) bs) x.answer z

item_lines_tell : (s : List ℕ) (p : ℕ) (d d' : List ℕ) (r : BsmWritten) → ItemLined s p d d' r → r.number ≡ 0 → line_answer (length d) p (item_at s p) ≡ wrote r.written
unfolding line_answer
item_lines_tell s p d d' r x z = wrote_some (line_answer (length d) p (item_at s p)) r (go (item_at s p) refl) x.answer z
  where
    go : (a : Answer) → item_at s p ≡ a → (k q n : ℕ) → line_answer (length d) p a ≡ denied k q n → k ≢ 0
    go (item i) e k q n f y = code_number (length d) (item_line p i) k q n f y
    go end e k q n f y = let w : ◌≡◌ {A = ℕ} 0 1 = cc in omega arith
    go (short m l) e k q n f y = let w : 1 ≡ k = cc in omega arith
    go (refusal j m l) e k q n f y = item_number s p j m l e (let w : j ≡ k = cc in w ∙ y)

-- ---- stages

stages_back : (c : Cursor) (n : ℕ) → let r = flat_listing c n in cursor_from r.stage (state_at r.place r.records r.files) ≡ c
unfolding flat_listing cursor_from
stages_back first n = refl
stages_back (at_state st) n = refl
stages_back done n = refl

pub numbers_tell : NumbersTell
numbers_tell =
    record {
      items = items_tell;
      body_tokens = tokens_tell;
      body_fields = fields_whole;
      bodies = bodies_tell;
      runs = runs_tell;
      steps_back = backs_tell;
      fills = fills_tell;
      finds = finds_tell;
      of_tokens = λ number values g. tells (token_draft number values g) (λ d d' f w. among_above (13 ∷ 11 ∷ 8 ∷ 10 ∷ []) f.number (omega arith, (omega arith, (omega arith, (omega arith, tt)))) (token_refusals number values g d d' f w).number);
      of_files = λ values name. tells (file_draft values name) (λ d d' f w. among_above (9 ∷ 8 ∷ 10 ∷ []) f.number (omega arith, (omega arith, (omega arith, tt))) (file_refusals values name d d' f w).number);
      of_records = λ h body.
          tells (record_draft h body)
          (λ d d' f w. ⊎_elim (λ o. among_above (13 ∷ 4 ∷ 11 ∷ 9 ∷ 10 ∷ []) f.number (omega arith, (omega arith, (omega arith, (omega arith, (omega arith, tt))))) o.number) (λ b. body_number (body_fault body b.found).number) (record_refusals h body d d' f w));
      of_lines = lines_tell;
      of_items = item_lines_tell;
      stages = stages_back;
    }

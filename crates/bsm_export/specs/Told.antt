-- What the numbers tell by themselves (include/bsm.h): where the number of a refusal is 0, nothing was refused; all fields of a token
-- have their place; and a stage that is handed back is taken for the cursor that it was made of. Assumes nothing.
use Rattle.std.specs.Prelude.{ℕ, ◌≤◌, ◌≡◌, ◌≢◌, List, length}
use Rattle.bsm_token.specs.Token.{Token, Extent, token, tokens, token_at, walk}
use Rattle.bsm_token.specs.Flat.{flat_token}
use Rattle.bsm_item.specs.Item.{Head, end, item_at}
use Rattle.bsm_item.specs.Meaning.{located}
use Rattle.bsm_item.specs.Reading.{State, plain, stop_of}
use Rattle.bsm_back.specs.Back.{record_before}
use Rattle.bsm_back.specs.Meaning.{located_back}
use Rattle.bsm_index.specs.Fill.{fill_of}
use Rattle.bsm_index.specs.Find.{find_record}
use Rattle.bsm_index.specs.Meaning.{found_at}
use Rattle.bsm_bytes.specs.Write.{Draft, code, wrote, answer_in}
use Rattle.bsm_draft.specs.Given.{Given, token_draft}
use Rattle.bsm_draft.specs.Items.{file_draft, record_draft}
use Rattle.bsm_listing.specs.Listing.{Cursor}
use Rattle.bsm_export.specs.Items.{flat_item, state_at, flat_outcome}
use Rattle.bsm_export.specs.Back.{flat_back}
use Rattle.bsm_export.specs.Index.{flat_fill, found_numbers}
use Rattle.bsm_export.specs.Written.{flat_walk, Exported}
use Rattle.bsm_export.specs.Lines.{line_answer, ItemLined, cursor_from, flat_listing}
use Rattle.bsm_export.specs.declared.answer.BsmWritten.{BsmWritten}

-- a writer of p that answers with the number 0 has written
abbrev pub Tells : Draft → Type 0
Tells p = (d d' : List ℕ) (r : BsmWritten) → Exported p d d' r → r.number ≡ 0 → answer_in (length d) p ≡ wrote r.written

pub record NumbersTell : Type 0 where
  pub items : (s : List ℕ) (p : ℕ) → (flat_item (located p (item_at s p))).number ≡ 0 → (flat_item (located p (item_at s p))).kind ≢ 3
  pub body_tokens : (s : List ℕ) (p : ℕ) → (flat_token (token_at s p)).number ≡ 0 → (flat_token (token_at s p)).kind ≢ 3
  pub body_fields : (s : List ℕ) (p : ℕ) (t : Token) (x : Extent) → token_at s p ≡ token t x → (length t.values ≤ 10) × (length x.counts ≤ 1)
  pub bodies : (s : List ℕ) → (flat_walk (walk s)).number ≡ 0 → walk s ≡ tokens (flat_walk (walk s)).written
  pub runs : (s : List ℕ) (st : State) → (flat_outcome (stop_of (plain s st))).number ≡ 0 → (plain s st).answer ≡ end
  pub steps_back : (s : List ℕ) (p : ℕ) → (flat_back p (located_back (record_before s p))).item.number ≡ 0 → (flat_back p (located_back (record_before s p))).item.kind ≢ 3
  pub fills : (s : List ℕ) (st : State) (t : List ℕ) → (flat_fill (fill_of s st t)).run.number ≡ 0 → (fill_of s st t).outcome.answer ≡ end
  pub finds : (s t : List ℕ) (c n : ℕ) → (found_numbers (found_at (find_record s t c n))).item.number ≡ 0 → (found_numbers (found_at (find_record s t c n))).item.kind ≢ 3
  pub of_tokens : (number : ℕ) (values : List ℕ) (g : Given) → Tells (token_draft number values g)
  pub of_files : (values name : List ℕ) → Tells (file_draft values name)
  pub of_records : (h : Head) (body : List ℕ) → Tells (record_draft h body)
  pub of_lines : (bs : List ℕ) → Tells (code bs)
  pub of_items : (s : List ℕ) (p : ℕ) (d d' : List ℕ) (r : BsmWritten) → ItemLined s p d d' r → r.number ≡ 0 → line_answer (length d) p (item_at s p) ≡ wrote r.written
  pub stages : (c : Cursor) (n : ℕ) → let r = flat_listing c n in cursor_from r.stage (state_at r.place r.records r.files) ≡ c

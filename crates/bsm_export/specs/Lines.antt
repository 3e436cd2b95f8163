-- Lines of a listing by places and states, and parts of a listing, as numbers. Assumes nothing.
use Rattle.std.specs.Prelude.{ℕ, ◌≡◌, List, ◌++◌, eqb, length, drop}
use Rattle.bsm_field.specs.Number.{if_else}
use Rattle.bsm_item.specs.Item.{Answer, item, end, short, refusal, item_at}
use Rattle.bsm_item.specs.Reading.{State, Outcome as Stop}
use Rattle.bsm_bytes.specs.Write.{Draft, code, Reply, wrote, denied, answer_in, left_in}
use Rattle.bsm_listing.specs.Line.{item_line, last_line}
use Rattle.bsm_listing.specs.Listing.{Cursor, first, at_state, done, Lines}
use Rattle.bsm_export.specs.declared.answer.BsmWritten.{BsmWritten}
use Rattle.bsm_export.specs.declared.lines.BsmListing.{BsmListing}
use Rattle.bsm_export.specs.Written.{flat_written}

-- ---- one line

-- what is answered by the writer of the line of an item at the place p; where no item stands there it is the answer there
unfoldable pub line_answer : (room p : ℕ) → Answer → Reply
line_answer room p (item i) = answer_in room (code (item_line p i))
line_answer room p end = wrote 0
line_answer room p (short q n) = denied 1 q n
line_answer room p (refusal e q n) = denied e q n

-- what the destination d holds afterwards
unfoldable pub line_left : List ℕ → ℕ → Answer → List ℕ
line_left d p (item i) = left_in d (code (item_line p i))
line_left d p end = d
line_left d p (short q n) = d
line_left d p (refusal e q n) = d

-- A writer that was to write the line of the item at the place p of s into d has answered r and left d'.
pub record ItemLined (s : List ℕ) (p : ℕ) (d d' : List ℕ) (r : BsmWritten) : Type 0 where
  pub answer : r ≡ flat_written (line_answer (length d) p (item_at s p))
  pub left : d' ≡ line_left d p (item_at s p)

-- the last line of a run
unfoldable pub last_draft : Stop → Draft
last_draft o = code (last_line o.state o.answer)

-- ---- parts

-- the cursor of a stage
unfoldable pub cursor_from : ℕ → State → Cursor
cursor_from stage st = if_else (eqb stage 0) first (if_else (eqb stage 1) (at_state st) done)

unfoldable pub flat_listing : Cursor → (written : ℕ) → BsmListing
flat_listing first written = record { stage = 0; place = 0; records = 0; files = 0; written = written }
flat_listing (at_state st) written = record { stage = 1; place = st.place; records = st.records; files = st.files; written = written }
flat_listing done written = record { stage = 2; place = 0; records = 0; files = 0; written = written }

-- A call that was to put the part p of a listing into d has answered r and left d': the part's bytes, then d as it stood.
pub record PartListed (p : Lines) (d d' : List ℕ) (r : BsmListing) : Type 0 where
  pub answer : r ≡ flat_listing p.cursor (length p.bytes)
  pub left : d' ≡ p.bytes ++ drop (length p.bytes) d

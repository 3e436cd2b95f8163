-- What writers answer, as numbers. Assumes nothing.
use Rattle.std.specs.Prelude.{ℕ, ◌≡◌, List, length}
use Rattle.bsm_token.specs.Token.{Walk, tokens, refused as bad}
use Rattle.bsm_bytes.specs.Write.{Draft, Reply, wrote, denied, answer_in, left_in}
use Rattle.bsm_export.specs.declared.answer.BsmWritten.{BsmWritten}

unfoldable pub flat_written : Reply → BsmWritten
flat_written (wrote n) = record { written = n; number = 0; place = 0; need = 0 }
flat_written (denied e p n) = record { written = 0; number = e; place = p; need = n }

-- A writer that was to write p into d has answered r and left d'.
pub record Exported (p : Draft) (d d' : List ℕ) (r : BsmWritten) : Type 0 where
  pub answer : r ≡ flat_written (answer_in (length d) p)
  pub left : d' ≡ left_in d p

-- the tokens of a body, counted, or the first refusal
unfoldable pub flat_walk : Walk → BsmWritten
flat_walk (tokens n) = flat_written (wrote n)
flat_walk (bad e) = flat_written (denied e.number e.place 0)

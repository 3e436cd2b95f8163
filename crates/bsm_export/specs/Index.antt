-- Fills and records by their numbers as numbers. Assumes nothing.
use Rattle.std.specs.Prelude.{ℕ, ◌≡◌, List}
use Rattle.bsm_index.specs.Fill.{Fill}
use Rattle.bsm_index.specs.Meaning.{FoundAt}
use Rattle.bsm_export.specs.Items.{flat_item, flat_outcome}
use Rattle.bsm_export.specs.declared.index.BsmFilled.{BsmFilled}
use Rattle.bsm_export.specs.declared.index.BsmFound.{BsmFound}

unfoldable pub flat_fill : Fill → BsmFilled
flat_fill f = record { run = flat_outcome f.outcome; count = f.count }

-- r are the numbers of the fill f, and t is its table
pub record FillTold (f : Fill) (t : List ℕ) (r : BsmFilled) : Type 0 where
  pub answer : r ≡ flat_fill f
  pub table : t ≡ f.table

abbrev pub found_numbers : FoundAt → BsmFound
found_numbers f = record { item = flat_item f.found; place = f.place }

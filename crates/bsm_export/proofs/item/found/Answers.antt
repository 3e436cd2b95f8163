use mathlib.Core.Path.{refl}
use Rattle.bsm_export.proofs.item.found.Goals as goal

pub returns : goal.returns
returns c = rw c.address_start.ensures refl

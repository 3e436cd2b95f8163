use mathlib.Core.Path.{refl}
use Rattle.bsm_export.proofs.item.no_item.Goals as goal

pub returns : goal.returns
returns c = refl

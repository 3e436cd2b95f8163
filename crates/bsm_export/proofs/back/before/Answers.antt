use mathlib.Core.Path.{refl}
use Rattle.bsm_export.proofs.back.before.Goals as goal

pub returns : goal.returns
returns c = refl

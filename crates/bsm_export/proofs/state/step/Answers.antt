use mathlib.Core.Path.{refl}
use Rattle.bsm_export.proofs.state.step.Goals as goal

pub returns : goal.returns
returns c = refl

use mathlib.Core.Path.{refl}
use Rattle.bsm_export.proofs.state.outcome.Goals as goal

pub returns : goal.returns
returns c = refl

use mathlib.Core.Path.{refl}
use Rattle.bsm_export.proofs.answer.answer_of.Goals as goal

pub returns : goal.returns
returns c = refl

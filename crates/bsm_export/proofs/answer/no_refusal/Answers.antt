use mathlib.Core.Path.{refl}
use Rattle.bsm_export.proofs.answer.no_refusal.Goals as goal

pub returns : goal.returns
returns c = refl

use Rattle.bsm_export.proofs.Answers.{wrote_flat, refused_flat}
use borrow.Author.Rules.{rules}
use Rattle.bsm_export.proofs.answer.BsmWrittenFromResultUsizeRefusal.from.Goals as goal

pub returns-in-Ok : goal.returns-in-Ok
returns-in-Ok c = search (wrote_flat, rules)

pub returns-in-Err : goal.returns-in-Err
returns-in-Err c = search (refused_flat, rules)

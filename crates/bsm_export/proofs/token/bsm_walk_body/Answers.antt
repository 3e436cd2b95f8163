use Rattle.bsm_export.proofs.Answers.{walk_counted, walk_refused}
use borrow.Author.Rules.{rules}
use Rattle.bsm_export.proofs.token.bsm_walk_body.Goals as goal

pub returns-in-Ok : goal.returns-in-Ok
returns-in-Ok c = search (walk_counted, rules)

pub returns-in-Err : goal.returns-in-Err
returns-in-Err c = search (walk_refused, rules)

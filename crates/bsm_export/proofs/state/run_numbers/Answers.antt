use Rattle.bsm_export.proofs.States.{run_end, run_refused}
use borrow.Author.Rules.{rules}
use Rattle.bsm_export.proofs.state.run_numbers.Goals as goal

pub returns-in-Ok : goal.returns-in-Ok
returns-in-Ok c = search (run_end, rules)

pub returns-in-Err : goal.returns-in-Err
returns-in-Err c = search (run_refused, rules)

use Rattle.bsm_export.proofs.States.{run_flat}
use borrow.Author.Rules.{rules}
use Rattle.bsm_export.proofs.state.bsm_run.Goals as goal

pub returns : goal.returns
returns c = search (run_flat, rules)

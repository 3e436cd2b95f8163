use Rattle.bsm_export.proofs.Indexed.{fill_told}
use borrow.Author.Rules.{rules}
use Rattle.bsm_export.proofs.index.bsm_fill_index.Goals as goal

pub returns : goal.returns
returns c = search (fill_told, rules)

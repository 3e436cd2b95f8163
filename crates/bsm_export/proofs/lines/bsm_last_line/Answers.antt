use Rattle.bsm_export.proofs.Listings.{last_lined}
use borrow.Author.Rules.{rules}
use Rattle.bsm_export.proofs.lines.bsm_last_line.Goals as goal

pub returns : goal.returns
returns c = search (last_lined, rules)

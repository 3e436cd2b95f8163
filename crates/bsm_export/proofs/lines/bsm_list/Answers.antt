use Rattle.bsm_export.proofs.Listings.{part_listed}
use borrow.Author.Rules.{rules}
use Rattle.bsm_export.proofs.lines.bsm_list.Goals as goal

pub returns : goal.returns
returns c = search (part_listed, rules)

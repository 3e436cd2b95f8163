use Rattle.bsm_export.proofs.Listings.{stage_first, stage_at, stage_done}
use borrow.Author.Rules.{rules}
use Rattle.bsm_export.proofs.lines.cursor_of.Goals as goal

pub returns-in-0 : goal.returns-in-0
returns-in-0 c = search (stage_first, rules)

pub returns-in-1 : goal.returns-in-1
returns-in-1 c = search (stage_at, rules)

pub returns-in_default : goal.returns-in_default
returns-in_default c = search (stage_done, rules)

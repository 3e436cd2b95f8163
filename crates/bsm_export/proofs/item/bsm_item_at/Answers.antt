use mathlib.Core.Path.{ap, ◌∙◌}
use Rattle.std.specs.Prelude.{Ok}
use Rattle.bsm_export.proofs.ItemNumbers.{found_here, end_here, refused_here}
use borrow.Author.Rules.{rules}
use Rattle.bsm_export.proofs.item.bsm_item_at.Goals as goal

pub returns-in-Ok-Some : goal.returns-in-Ok-Some
returns-in-Ok-Some c = search (found_here, c.in-Ok-Some.is ∙ ap Ok c.in-Ok-Some.field-0-is, rules)

pub returns-in-Ok-None : goal.returns-in-Ok-None
returns-in-Ok-None c = search (end_here, c.in-Ok-None.is ∙ ap Ok c.in-Ok-None.field-0-is, rules)

pub returns-in-Err : goal.returns-in-Err
returns-in-Err c = search (refused_here, rules)

use mathlib.Core.Path.{ap, ◌∙◌}
use Rattle.std.specs.Prelude.{Ok}
use Rattle.bsm_export.proofs.Listings.{line_found, line_end, line_refused}
use borrow.Author.Rules.{rules}
use Rattle.bsm_export.proofs.lines.bsm_item_line.Goals as goal

pub returns-in-Ok-Some : goal.returns-in-Ok-Some
returns-in-Ok-Some c = search (line_found, c.in-Ok-Some.is ∙ ap Ok c.in-Ok-Some.field-0-is, rules)

pub returns-in-Ok-None : goal.returns-in-Ok-None
returns-in-Ok-None c = search (line_end, c.in-Ok-None.is ∙ ap Ok c.in-Ok-None.field-0-is, rules)

pub returns-in-Err : goal.returns-in-Err
returns-in-Err c = search (line_refused, rules)

use mathlib.Core.Path.{ap, ◌∙◌}
use Rattle.std.specs.Prelude.{Ok}
use Rattle.bsm_export.proofs.StepsBack.{back_record, back_boundary, back_refused}
use borrow.Author.Rules.{rules}
use Rattle.bsm_export.proofs.back.bsm_record_before.Goals as goal

pub returns-in-Ok-Record : goal.returns-in-Ok-Record
returns-in-Ok-Record c = search (back_record, c.in-Ok-Record.is ∙ ap Ok c.in-Ok-Record.field-0-is, rules)

pub returns-in-Ok-Boundary : goal.returns-in-Ok-Boundary
returns-in-Ok-Boundary c = search (back_boundary, c.in-Ok-Boundary.is ∙ ap Ok c.in-Ok-Boundary.field-0-is, rules)

pub returns-in-Err : goal.returns-in-Err
returns-in-Err c = search (back_refused, rules)

use mathlib.Core.Path.{ap, ◌∙◌}
use Rattle.std.specs.Prelude.{Ok}
use Rattle.bsm_export.proofs.Places.{body-says}
use borrow.Author.Rules.{rules}
use Rattle.bsm_export.proofs.item.bsm_body_at.Goals as goal

pub returns-in-Ok-Some-Record : goal.returns-in-Ok-Some-Record
returns-in-Ok-Some-Record c = search (body-says, c.in-Ok-Some-Record.is ∙ ap Ok c.in-Ok-Some-Record.field-0-is, c.in-Ok-Some-Record.field-0-0-is, rules)

pub returns-in-Ok-Some-File : goal.returns-in-Ok-Some-File
returns-in-Ok-Some-File c = search (body-says, c.in-Ok-Some-File.is ∙ ap Ok c.in-Ok-Some-File.field-0-is, c.in-Ok-Some-File.field-0-0-is, rules)

pub returns-in-Ok-None : goal.returns-in-Ok-None
returns-in-Ok-None c = search (body-says, c.in-Ok-None.is ∙ ap Ok c.in-Ok-None.field-0-is, rules)

pub returns-in-Err : goal.returns-in-Err
returns-in-Err c = search (body-says, rules)

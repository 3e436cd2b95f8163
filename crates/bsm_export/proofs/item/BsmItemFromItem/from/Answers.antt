use Rattle.bsm_export.proofs.ItemNumbers.{file_flat, record_flat}
use borrow.Author.Rules.{rules}
use Rattle.bsm_export.proofs.item.BsmItemFromItem.from.Goals as goal

pub returns-in-File : goal.returns-in-File
returns-in-File c = search (file_flat, rules)

pub returns-in-Record : goal.returns-in-Record
returns-in-Record c = search (record_flat, rules)

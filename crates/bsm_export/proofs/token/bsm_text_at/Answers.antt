use Rattle.bsm_export.proofs.Places.{string_at, string_none}
use borrow.Author.Rules.{rules}
use Rattle.bsm_export.proofs.token.bsm_text_at.Goals as goal

pub returns-then-has_string : goal.returns-then-has_string
returns-then-has_string c = search (string_at, rules)

pub returns-else-has_string : goal.returns-else-has_string
returns-else-has_string c = search (string_none, rules)

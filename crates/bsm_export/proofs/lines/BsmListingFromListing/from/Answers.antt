use Rattle.bsm_export.proofs.Listings.{listed_first, listed_at, listed_done}
use borrow.Author.Rules.{rules}
use Rattle.bsm_export.proofs.lines.BsmListingFromListing.from.Goals as goal

pub returns-in-First : goal.returns-in-First
returns-in-First c = search (listed_first, rules)

pub returns-in-At : goal.returns-in-At
returns-in-At c = search (listed_at, rules)

pub returns-in-Done : goal.returns-in-Done
returns-in-Done c = search (listed_done, rules)

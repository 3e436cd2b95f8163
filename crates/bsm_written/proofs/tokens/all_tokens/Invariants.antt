-- The place is within the buffer.
use Rattle.std.proofs.Common.{◌≤◌, length}
use Rattle.bsm_written.proofs.tokens.all_tokens.Given as goal

abbrev pub invariant-loop-number : goal.invariant-loop-number
invariant-loop-number g l = l.at ≤ length l.space

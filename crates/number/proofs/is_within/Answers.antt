-- The limits are 2^29 and −2^29, and both comparisons hold of a double that is within them alone.
use Rattle.std.proofs.Common.{sym, ◌∙◌}
use lib.Ieee.{neg, of_int}
use Rattle.number.proofs.Limits.{decided_by_highest, below_lowest, within_is_small}
use Rattle.number.proofs.is_within.Goals as goal

pub returns-else-limit-x : goal.returns-else-limit-x
unfolding neg of_int
returns-else-limit-x c = c.if-limit-x.false ∙ sym (below_lowest 29 c.args.x c.if-limit-x.false) ∙ within_is_small c.args.x

pub returns-then-limit-x : goal.returns-then-limit-x
unfolding neg of_int
returns-then-limit-x c = decided_by_highest 29 c.args.x c.if-limit-x.true ∙ within_is_small c.args.x

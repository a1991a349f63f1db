-- `sight::ceiling::allowance` meets its contract.
use native.Mathlib.Omega.{arith}
use Rattle.sight.proofs.UpTo.{few_allowed, all_allowed}
use Rattle.sight.proofs.ceiling.allowance.Goals as goal

pub overflow_add-result : goal.overflow_add-result
overflow_add-result c = let few = c.if-most-lt-ENOUGH.true in omega arith

pub returns-then-most-lt-ENOUGH : goal.returns-then-most-lt-ENOUGH
returns-then-most-lt-ENOUGH c = few_allowed c.args.n c.if-most-lt-ENOUGH.true

pub returns : goal.returns
returns c = all_allowed c.args.n c.if-most-lt-ENOUGH.false

-- `draw::count_polygons` meets its contract.
use mathlib.Core.Logic.{inl, inr}
use native.Mathlib.Omega.{arith}
use Rattle.draw.proofs.Walked.{walk_begins, too_few_corners, too_many_corners, past_the_end, walk_goes_on, walk_ends}
use Rattle.draw.proofs.count_polygons.Goals as goal

pub loop-at-init : goal.loop-at-init
loop-at-init g c = walk_begins _ _

pub returns-then-sides-lt-LEAST_SIDES : goal.returns-then-sides-lt-LEAST_SIDES
returns-then-sides-lt-LEAST_SIDES g c = λ ts long l.
    elim c.then-sides-lt-LEAST_SIDES.either [
      | inl few ↦ too_few_corners c.loop-at.invariant c.loop-at-test.true c.number-sides.ensures ts long l few
      | inr many ↦ too_many_corners c.loop-at.invariant c.loop-at-test.true c.number-sides.ensures ts long l (omega arith)
    ]

pub returns-then-m-last : goal.returns-then-m-last
returns-then-m-last g c = λ ts long l. past_the_end c.loop-at.invariant c.loop-at-test.true c.number-sides.ensures ts long l (omega arith)

pub loop-at-preserved : goal.loop-at-preserved
loop-at-preserved g c = walk_goes_on c.loop-at.invariant c.loop-at-test.true c.number-sides.ensures (omega arith) (omega arith) (omega arith) (omega arith)

pub returns : goal.returns
returns g c = walk_ends c.loop-at.invariant c.loop-at-test.false

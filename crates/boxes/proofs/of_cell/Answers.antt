-- `boxes::of_cell` meets its contract.
use native.Mathlib.Omega.{arith}
use Rattle.cells.proofs.Faces.{side_exists}
use Rattle.boxes.proofs.Cells.{first_side, corner_there, holding_at, holding_goes_on}
use Rattle.boxes.proofs.of_cell.Goals as goal

pub start-requires : goal.start-requires
start-requires c = let N = c.args.cells.now.numbered in
    side_exists N c.requires.c_bound (first_side N c.requires.c_bound c.first-from.ensures)

pub around-r-requires : goal.around-r-requires
around-r-requires c = let N = c.args.cells.now.numbered in
    corner_there N c.requires.c_bound c.requires.corners_exist (first_side N c.requires.c_bound c.first-from.ensures) c.start.ensures

pub overflow_step-f : goal.overflow_step-f
overflow_step-f c = let N = c.args.cells.now.numbered in
    omega (arith, side_exists N c.requires.c_bound (first_side N c.requires.c_bound c.first-from.ensures))

pub start-requires-in-loop-f : goal.start-requires-in-loop-f
start-requires-in-loop-f c = side_exists c.args.cells.now.numbered c.requires.c_bound (holding_at c.loop-f.invariant c.loop-f-test.true)

pub around-requires : goal.around-requires
around-requires c = corner_there c.args.cells.now.numbered c.requires.c_bound c.requires.corners_exist (holding_at c.loop-f.invariant c.loop-f-test.true) c.start-in-loop-f.ensures

pub loop-f-preserved : goal.loop-f-preserved
loop-f-preserved c = holding_goes_on c.loop-f.invariant c.start-in-loop-f.ensures c.around.ensures c.joined-r.ensures.holds_self c.joined-r.ensures.holds_other

-- `stand::locate::on_side` meets its contract.
use Prim.Native.Nat.{◌<◌}
use native.Mathlib.Omega.{arith}
use Rattle.plane.specs.Side.{point}
use Rattle.cells.specs.Lists.{cell_count}
use Rattle.face.specs.Tables.{tables}
use Rattle.stand.proofs.Doorways.{cells_go_on, side_there, stands_on_a_side, stands_on_no_side}
use Rattle.stand.proofs.locate.on_side.Goals as goal

pub overflow_sub-result : goal.overflow_sub-result
overflow_sub-result c = let h : c.loop-c.c < cell_count (tables c.args.plan.now.cells) = omega (arith, c.count-c-end.ensures, c.loop-c-test.true) in
    omega (arith, c.first.ensures, (side_there c.args.plan.now.cells.numbered c.loop-c.invariant h c.in-Some.ensures).not_before)

pub returns-in-Some : goal.returns-in-Some
returns-in-Some c = let a = c.args in
    let h : c.loop-c.c < cell_count (tables a.plan.now.cells) = omega (arith, c.count-c-end.ensures, c.loop-c-test.true) in
    rw c.first.ensures (stands_on_a_side a.plan.now.corners.now a.plan.now.cells.numbered a.plan.now.doors.now a.setting (point a.q) c.loop-c.invariant h c.in-Some.ensures)

pub loop-c-preserved : goal.loop-c-preserved
loop-c-preserved c = let h : c.loop-c.c < cell_count (tables c.args.plan.now.cells) = omega (arith, c.count-c-end.ensures, c.loop-c-test.true) in
    cells_go_on c.args.plan.now.cells.numbered c.loop-c.invariant h c.in_default.ensures

pub returns : goal.returns
returns c = let a = c.args in
    stands_on_no_side a.plan.now.corners.now a.plan.now.cells.numbered a.plan.now.doors.now a.setting (point a.q) c.loop-c.invariant (omega (arith, c.count-c-end.ensures, c.loop-c-test.false))

-- `stand::locate::locate` meets its contract.
use mathlib.Core.Path.{sym, subst}
use Prim.Native.Nat.{◌+◌, ◌<◌}
use native.Mathlib.Omega.{arith}
use Rattle.plane.specs.Side.{point}
use Rattle.cells.specs.Lists.{cell_count}
use Rattle.face.specs.Tables.{tables}
use Rattle.stand.proofs.Finds.{Searched, held_strictly, met_on_its_border, passed_by, is_on_a_border, is_outside}
use Rattle.stand.proofs.locate.locate.Goals as goal
use Rattle.stand.proofs.locate.locate.Goals.{in-Border, in-Outside}

pub returns-in-Inside : goal.returns-in-Inside
returns-in-Inside c = let a = c.args in
    held_strictly c.loop-c.invariant (omega (arith, c.count-c-end.ensures, c.loop-c-test.true)) c.containment_by_box.ensures c.in-Inside.is a.plan.now.doors.now a.setting

pub loop-c-preserved : goal.loop-c-preserved
loop-c-preserved c = let a = c.args in
    let l = c.loop-c in
    let s = Searched a.plan.now.corners.now (tables a.plan.now.cells) (point a.q) (l.c + 1) in
    let h : l.c < cell_count (tables a.plan.now.cells) = omega (arith, c.count-c-end.ensures, c.loop-c-test.true) in
    elim c.match-containment_by_box.branch [
      | in-Border w ↦ subst s (sym w.on_border-is) (met_on_its_border l.invariant h c.containment_by_box.ensures w.in-Border.is)
      | in-Outside w ↦ subst s (sym w.on_border-is) (passed_by l.invariant h c.containment_by_box.ensures w.in-Outside.is)
    ]

pub returns-then-on_border : goal.returns-then-on_border
returns-then-on_border c = let a = c.args in
    is_on_a_border c.loop-c.invariant (omega (arith, c.count-c-end.ensures, c.loop-c-test.false)) a.plan.now.doors.now a.setting c.if-on_border.true c.on_side.ensures

pub returns : goal.returns
returns c = let a = c.args in
    is_outside c.loop-c.invariant (omega (arith, c.count-c-end.ensures, c.loop-c-test.false)) a.plan.now.doors.now a.setting a.plan.now.cells.numbered c.args.plan.now.sound.cells c.if-on_border.false

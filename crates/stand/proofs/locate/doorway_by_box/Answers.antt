-- `stand::locate::doorway_by_box` meets its contract.
use Rattle.plane.specs.Side.{point}
use Rattle.stand.proofs.ByBox.{tested_past, past_has_no_doorway}
use Rattle.stand.proofs.locate.doorway_by_box.Goals as goal

pub returns-then-is_past : goal.returns-then-is_past
returns-then-is_past c = let a = c.args in
    let sound = c.args.plan.now.sound in
    let q = point a.q in
    past_has_no_doorway sound.numbered sound.cells c.args.plan.now.boxed q c.requires.c_bound (tested_past q c.read-b.ensures c.is_past.ensures c.if-is_past.true) a.plan.now.doors.now a.setting

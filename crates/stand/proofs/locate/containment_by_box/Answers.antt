-- `stand::locate::containment_by_box` meets its contract.
use Rattle.plane.specs.Side.{point}
use Rattle.cells.proofs.Plans.{corners_exist}
use Rattle.stand.proofs.ByBox.{tested_past, past_is_outside}
use Rattle.stand.proofs.locate.containment_by_box.Goals as goal

pub returns-then-is_past : goal.returns-then-is_past
returns-then-is_past c = let q = point c.args.q in
    past_is_outside c.args.plan.now.cells.numbered c.args.plan.now.sound.cells c.args.plan.now.boxed q c.requires.c_bound (tested_past q c.read-b.ensures c.is_past.ensures c.if-is_past.true)

pub containment-requires-clause-corners : goal.containment-requires-clause-corners
containment-requires-clause-corners c = (c.args.plan.now.sound.corners, corners_exist c.args.plan.now.cells.numbered c.args.plan.now.sound.cells)

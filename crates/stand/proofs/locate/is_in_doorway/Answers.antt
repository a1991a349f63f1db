-- `stand::locate::is_in_doorway` meets its contract.
use Rattle.plane.specs.Side.{point}
use Rattle.cells.proofs.Faces.{home_exists, next_below}
use Rattle.cells.proofs.Plans.{counts, corners_exist}
use Rattle.stand.proofs.Sides.{ends_near}
use Rattle.stand.proofs.Doorways.{side_read, not_in_it, in_it_if_free}
use Rattle.stand.proofs.locate.is_in_doorway.Goals as goal

pub start-from-requires-clause-corners_exist : goal.start-from-requires-clause-corners_exist
start-from-requires-clause-corners_exist c = corners_exist c.args.plan.now.cells.numbered c.args.plan.now.sound.cells

pub start-to-requires-clause-corners_exist : goal.start-to-requires-clause-corners_exist
start-to-requires-clause-corners_exist c = corners_exist c.args.plan.now.cells.numbered c.args.plan.now.sound.cells

pub start-to-requires-clause-f_bound : goal.start-to-requires-clause-f_bound
start-to-requires-clause-f_bound c = rw c.requires.f_bound.1 (next_below c.args.plan.now.cells.numbered _ c.requires.f_bound.0)

pub is_within-requires : goal.is_within-requires
is_within-requires c = let sound = c.args.plan.now.sound in
    let f_exists = c.requires.f_bound.0 in
    let side = side_read sound f_exists c.requires.f_bound.1 c.start-from.result c.start-to.result c.start-from.ensures c.start-to.ensures in
    ends_near side sound.numbered (home_exists sound.numbered _ f_exists) sound.corners (corners_exist sound.numbered sound.cells) c.requires.near

pub is_free-requires-clause-doors_len_bound : goal.is_free-requires-clause-doors_len_bound
is_free-requires-clause-doors_len_bound c = (counts _ _ _ c.args.plan.now.sound.in_size).doors_at_most

pub returns-then-is_within : goal.returns-then-is_within
returns-then-is_within c = let a = c.args in
    let side = side_read c.args.plan.now.sound c.requires.f_bound.0 c.requires.f_bound.1 c.start-from.result c.start-to.result c.start-from.ensures c.start-to.ensures in
    in_it_if_free side a.plan.now.doors.now a.setting (point a.q) c.is_within.ensures c.if-is_within.true c.is_free.ensures

pub returns-else-is_within : goal.returns-else-is_within
returns-else-is_within c = let a = c.args in
    let side = side_read c.args.plan.now.sound c.requires.f_bound.0 c.requires.f_bound.1 c.start-from.result c.start-to.result c.start-from.ensures c.start-to.ensures in
    not_in_it side a.plan.now.doors.now a.setting (point a.q) c.is_within.ensures c.if-is_within.false

-- `morning::list_in` meets its contract.
use mathlib.Core.Path.{ap, sym, ◌∙◌}
use native.Mathlib.Omega.{arith}
use Rattle.std.specs.Prelude.{Result}
use Rattle.limits.specs.declared.Refusal.{Refusal}
use Rattle.limits.proofs.Handed.{handed_on}
use Rattle.cells.proofs.Plans.{counts}
use Rattle.checking.proofs.Rooms.{drawn_cells, noted_boxes, room_for_lines}
use Rattle.sight.specs.declared.list.Counts.{Counts}
use Rattle.grant.proofs.Grants.{grants}
use Rattle.morning.proofs.Together.{call_refused, sound_on_the_tables, room_for_all, call_done}
use Rattle.morning.proofs.list_in.Goals as goal

pub asked_in-requires : goal.asked_in-requires
asked_in-requires c = record { cells_value = c.requires.cells_value; count_le_most_stands = c.requires.count_le_most_stands; faces_len = c.requires.faces_len; firsts_len = c.requires.firsts_len; backs_len = c.requires.backs_len; cells_in_bounds = omega (arith, (counts _ _ _ c.requires.cells_value.1).cells_at_most) }

pub invariant_of-cells : goal.invariant_of-cells
invariant_of-cells c = let drawn = drawn_cells c.args.kind c.args.cells.now c.asked_in.ensures.faces_after c.asked_in.ensures.firsts_after in
    let granted = grants c.args.kind c.args.corners.now c.args.cells.now c.args.doors.now c.asked_in.ensures.value c.in_ok-asked_in.was in
    record { numbered = (sound_on_the_tables c.args.kind c.args.corners.now c.args.cells.now c.args.doors.now c.args.morning c.args.stands c.args.table.now c.args.replies.now drawn granted).numbered }

pub invariant_of-plan : goal.invariant_of-plan
invariant_of-plan c = let drawn = drawn_cells c.args.kind c.args.cells.now c.asked_in.ensures.faces_after c.asked_in.ensures.firsts_after in
    let granted = grants c.args.kind c.args.corners.now c.args.cells.now c.args.doors.now c.asked_in.ensures.value c.in_ok-asked_in.was in
    let all = noted_boxes c.args.kind c.args.corners.now c.args.cells.now c.args.doors.now _ _ drawn c.asked_in.ensures.backed (sound_on_the_tables c.args.kind c.args.corners.now c.args.cells.now c.args.doors.now c.args.morning c.args.stands c.args.table.now c.args.replies.now drawn granted) in
    record { sound = all.0; backed = all.1; boxed = all.2 }

pub list_each-requires : goal.list_each-requires
list_each-requires c = let drawn = drawn_cells c.args.kind c.args.cells.now c.asked_in.ensures.faces_after c.asked_in.ensures.firsts_after in
    let granted = grants c.args.kind c.args.corners.now c.args.cells.now c.args.doors.now c.asked_in.ensures.value c.in_ok-asked_in.was in
    record { room_for = room_for_all c.args.kind c.args.corners.now c.args.cells.now c.args.doors.now c.args.morning c.args.stands c.args.table.now c.args.replies.now drawn granted; lines_len = (room_for_lines c.args.kind c.args.cells.now drawn c.requires.lines_len.0, c.requires.lines_len.1) }

pub returns-in_err-asked_in : goal.returns-in_err-asked_in
returns-in_err-asked_in c = ap (λ (r : Result Counts Refusal). (r, (c.args.table.now, c.args.replies.now))) (handed_on c.from_residual.ensures.1) ∙ call_refused c.args.kind c.args.corners.now c.args.cells.now c.args.doors.now c.args.morning c.args.stands c.args.table.now c.args.replies.now (sym c.asked_in.ensures.value ∙ c.in_err-asked_in.was)

pub returns : goal.returns
returns c = call_done c.args.kind c.args.corners.now c.args.cells.now c.args.doors.now c.args.morning c.args.stands c.args.table.now c.args.replies.now (drawn_cells c.args.kind c.args.cells.now c.asked_in.ensures.faces_after c.asked_in.ensures.firsts_after) (grants c.args.kind c.args.corners.now c.args.cells.now c.args.doors.now c.asked_in.ensures.value c.in_ok-asked_in.was) (c.list_each.ensures.rows_value, (c.list_each.ensures.crossings_value, (c.list_each.ensures.table_after, c.list_each.ensures.replies_after)))

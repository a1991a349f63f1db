-- `doors::change_in` meets its contract.
use mathlib.Core.Path.{ap, sym, ◌∙◌}
use native.Mathlib.Omega.{arith}
use Rattle.std.specs.Prelude.{Result}
use Rattle.limits.specs.declared.Refusal.{Refusal}
use Rattle.limits.proofs.Handed.{handed_on}
use Rattle.cells.proofs.Plans.{counts}
use Rattle.checking.proofs.Rooms.{drawn_cells, noted_backs, room_for_lines}
use Rattle.sight.proofs.Views.{listing_sound, listing_stands, listing_in_range}
use Rattle.sight.specs.declared.list.Counts.{Counts}
use Rattle.doors.proofs.Changes.{change_refused, underfoot_refused, room_refused, change_done}
use Rattle.doors.proofs.change_in.Goals as goal

pub view_in-requires : goal.view_in-requires
view_in-requires c = record { cells_value = c.requires.cells_value; faces_len = c.requires.faces_len; firsts_len = c.requires.firsts_len; backs_len = c.requires.backs_len }

pub is_underfoot-requires : goal.is_underfoot-requires
is_underfoot-requires c = let a = c.args in
    let view = sym c.view_in.ensures.value ∙ c.in_ok-view.was in
    let drawn = drawn_cells a.kind a.cells.now c.view_in.ensures.faces_after c.view_in.ensures.firsts_after in
    let sound = listing_sound a.kind a.corners.now a.cells.now a.doors.now a.query view drawn in
    record { sound = (sound, noted_backs a.kind a.corners.now a.cells.now a.doors.now _ drawn c.view_in.ensures.backed sound); near = (listing_stands a.kind a.corners.now a.cells.now a.doors.now a.query view drawn).0 }

pub returns-then-is_underfoot : goal.returns-then-is_underfoot
returns-then-is_underfoot c = let a = c.args in
    underfoot_refused a.kind a.corners.now a.cells.now a.doors.now a.query a.given.now a.door a.shut a.table.now
    (sym c.view_in.ensures.value ∙ c.in_ok-view.was) (drawn_cells a.kind a.cells.now c.view_in.ensures.faces_after c.view_in.ensures.firsts_after) c.is_underfoot.ensures c.if-is_underfoot.true

pub overflow_mul-corners : goal.overflow_mul-corners
overflow_mul-corners c = let few = (counts _ _ _ c.requires.cells_value.1).corners_at_most in record { fits = omega arith }

pub returns-then-table-corners : goal.returns-then-table-corners
returns-then-table-corners c = let a = c.args in
    room_refused a.kind a.corners.now a.cells.now a.doors.now a.query a.given.now a.door a.shut a.table.now
    (sym c.view_in.ensures.value ∙ c.in_ok-view.was) (drawn_cells a.kind a.cells.now c.view_in.ensures.faces_after c.view_in.ensures.firsts_after) c.is_underfoot.ensures c.if-is_underfoot.false c.if-table-corners.true

pub change_from-requires : goal.change_from-requires
change_from-requires c = let a = c.args in
    let view = sym c.view_in.ensures.value ∙ c.in_ok-view.was in
    let drawn = drawn_cells a.kind a.cells.now c.view_in.ensures.faces_after c.view_in.ensures.firsts_after in
    let sound = listing_sound a.kind a.corners.now a.cells.now a.doors.now a.query view drawn in
    record { sound = (sound, noted_backs a.kind a.corners.now a.cells.now a.doors.now _ drawn c.view_in.ensures.backed sound); near = listing_stands a.kind a.corners.now a.cells.now a.doors.now a.query view drawn; p_value = sym c.is_underfoot.ensures ∙ c.if-is_underfoot.false; corners_in_bounds = (c.if-table-corners.false, listing_in_range a.kind a.corners.now a.cells.now a.doors.now a.query view c.range.ensures); lines_len = (room_for_lines a.kind a.cells.now drawn c.requires.lines_len.0, c.requires.lines_len.1) }

pub returns-in_err-view : goal.returns-in_err-view
returns-in_err-view c = let a = c.args in
    ap (λ (r : Result Counts Refusal). (r, a.table.now)) (handed_on c.from_residual.ensures.1)
    ∙ change_refused a.kind a.corners.now a.cells.now a.doors.now a.query a.given.now a.door a.shut a.table.now
    (sym c.view_in.ensures.value ∙ c.in_err-view.was)

pub shape_of-faces : goal.shape_of-faces
shape_of-faces c = c.view_in.auto.faces

pub returns : goal.returns
returns c = let a = c.args in
    change_done a.kind a.corners.now a.cells.now a.doors.now a.query a.given.now a.door a.shut a.table.now
    (sym c.view_in.ensures.value ∙ c.in_ok-view.was) (drawn_cells a.kind a.cells.now c.view_in.ensures.faces_after c.view_in.ensures.firsts_after) c.is_underfoot.ensures c.if-is_underfoot.false c.if-table-corners.false c.range.ensures c.change_from.ensures

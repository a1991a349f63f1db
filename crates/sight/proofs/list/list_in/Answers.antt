-- `sight::list::list_in` meets its contract.
use mathlib.Core.Path.{ap, sym, ◌∙◌}
use Rattle.std.specs.Prelude.{Result}
use Rattle.limits.specs.declared.Refusal.{Refusal}
use Rattle.limits.proofs.Handed.{handed_on}
use Rattle.checking.proofs.Rooms.{drawn_cells, noted_backs, room_for_lines}
use Rattle.sight.proofs.UpTo.{up_to_it}
use Rattle.sight.proofs.Views.{listing_refused, room_refused, listing_sound, listing_stands, listing_in_range, listing_done}
use Rattle.sight.specs.declared.list.Counts.{Counts}
use Rattle.sight.proofs.list.list_in.Goals as goal

pub view_in-requires : goal.view_in-requires
view_in-requires c = record { cells_value = c.requires.cells_value; faces_len = c.requires.faces_len; firsts_len = c.requires.firsts_len; backs_len = c.requires.backs_len }

pub returns-then-table-corners : goal.returns-then-table-corners
returns-then-table-corners c = let a = c.args in
    up_to_it a.kind a.corners.now a.cells.now a.doors.now a.query a.ceiling a.table.now
    (room_refused a.kind a.corners.now a.cells.now a.doors.now a.query a.table.now (sym c.view_in.ensures.value ∙ c.in_ok-view.was) c.if-table-corners.true)

pub list_at-requires : goal.list_at-requires
list_at-requires c = let a = c.args in
    let drawn = drawn_cells a.kind a.cells.now c.view_in.ensures.faces_after c.view_in.ensures.firsts_after in
    let view = sym c.view_in.ensures.value ∙ c.in_ok-view.was in
    let sound = listing_sound a.kind a.corners.now a.cells.now a.doors.now a.query view drawn in
    record { sound = (sound, noted_backs a.kind a.corners.now a.cells.now a.doors.now _ drawn c.view_in.ensures.backed sound); near = listing_stands a.kind a.corners.now a.cells.now a.doors.now a.query view drawn; corners_in_bounds = (c.if-table-corners.false, listing_in_range a.kind a.corners.now a.cells.now a.doors.now a.query view c.range.ensures); lines_len = (room_for_lines a.kind a.cells.now drawn c.requires.lines_len.0, c.requires.lines_len.1) }

pub returns-in_err-view : goal.returns-in_err-view
returns-in_err-view c = let a = c.args in
    ap (λ (r : Result Counts Refusal). (r, a.table.now)) (handed_on c.from_residual.ensures.1)
    ∙ up_to_it a.kind a.corners.now a.cells.now a.doors.now a.query a.ceiling a.table.now
    (listing_refused a.kind a.corners.now a.cells.now a.doors.now a.query a.table.now (sym c.view_in.ensures.value ∙ c.in_err-view.was))

pub returns : goal.returns
returns c = let a = c.args in
    c.list_at.ensures
    ∙ up_to_it a.kind a.corners.now a.cells.now a.doors.now a.query a.ceiling a.table.now
    (listing_done a.kind a.corners.now a.cells.now a.doors.now a.query a.table.now (sym c.view_in.ensures.value ∙ c.in_ok-view.was)
    (drawn_cells a.kind a.cells.now c.view_in.ensures.faces_after c.view_in.ensures.firsts_after) c.range.ensures c.if-table-corners.false)

-- `tablet::drawing::draw_rows` meets its contract.
use native.Mathlib.Omega.{arith}
use Rattle.tablet.proofs.Rows.{draws_begin, row_not_far, draws_on, draws_end}
use Rattle.tablet.proofs.drawing.draw_rows.Goals as goal

pub loop-i-init : goal.loop-i-init
loop-i-init c = draws_begin _ _ _ _ _ c.requires.none_far

pub draw_row-requires : goal.draw_row-requires
draw_row-requires c = let d = c.loop-i.invariant in
    let more = c.loop-i-test.true in
    record { corners_near = c.requires.corners_near; i_in_bounds = omega (arith, c.requires.rows_in_bounds, more); names_corners = c.requires.name_corners _ more; room = omega (arith, c.requires.room, d.same_length, more); not_far = row_not_far _ _ _ _ _ d more }

pub loop-i-preserved : goal.loop-i-preserved
loop-i-preserved c = draws_on _ _ _ _ _ c.loop-i.invariant c.loop-i-test.true c.draw_row.ensures

pub shape_of-offsets : goal.shape_of-offsets
shape_of-offsets c = c.loop-i.invariant.same_length

pub returns : goal.returns
returns c = draws_end _ _ _ _ _ c.loop-i.invariant c.loop-i-test.false

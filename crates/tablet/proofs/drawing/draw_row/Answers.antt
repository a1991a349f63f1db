-- `tablet::drawing::draw_row` meets its contract.
use native.Mathlib.Omega.{arith}
use lib.ListN.{length-set}
use Rattle.plane.specs.Side.{point}
use Rattle.fan.specs.Sight.{Row}
use Rattle.fan.specs.Written.{row_at}
use Rattle.tablet.proofs.Rows.{not_far_right, not_far_left, row_put}
use Rattle.tablet.proofs.drawing.draw_row.Goals as goal
use Rattle.tablet.proofs.drawing.draw_row.Goals.{Start}

-- row i
abbrev row : Start → Row
row s = row_at s.args.table.now s.args.i

pub offset_of-right-requires : goal.offset_of-right-requires
offset_of-right-requires c = record { corners_near = c.requires.corners_near; i_bound = (c.requires.names_corners.0, not_far_right c.args.corners.now (point c.args.q) (row (goal.at.offset_of-right-requires c).Start) c.requires.not_far) }

pub offset_of-left-requires : goal.offset_of-left-requires
offset_of-left-requires c = record { corners_near = c.requires.corners_near; i_bound = (c.requires.names_corners.1, not_far_left c.args.corners.now (point c.args.q) (row (goal.at.offset_of-left-requires c).Start) c.requires.not_far) }

pub bounds-offsets-i-2 : goal.bounds-offsets-i-2
bounds-offsets-i-2 c = simp length-set (omega (arith, c.requires.room))

pub bounds-offsets-i-3 : goal.bounds-offsets-i-3
bounds-offsets-i-3 c = simp length-set (omega (arith, c.requires.room))

pub returns : goal.returns
returns c = row_put c.args.corners.now (point c.args.q) (row (goal.at.returns c).Start) c.args.offsets.now c.args.i c.offset_of-right.ensures c.offset_of-left.ensures

-- `checking::cell::is_wrong` meets its contract.
use mathlib.Core.Bool.{false}
use mathlib.Core.Path.{◌≡◌, sym, ◌∙◌}
use Prim.Native.Nat.{suc, ◌+◌}
use native.Mathlib.Omega.{arith}
use Rattle.cells.specs.Lists.{first}
use Rattle.cells.specs.Check.{some_face, missing_corner}
use Rattle.cells.proofs.Faces.{side_exists}
use Rattle.face.specs.Tables.{tables}
use Rattle.checking.proofs.Cells.{wrong_by_a_number, wrong_by_its_sides}
use Rattle.checking.proofs.Triangles.{three_sides, three_there, by_its_area}
use Rattle.checking.proofs.cell.is_wrong.Goals as goal
use Rattle.checking.proofs.cell.is_wrong.Goals.{Else-lacks_a_corner, Then-end-f}

-- past the first test every corner number exists
none_missing : (c : Else-lacks_a_corner) → some_face (tables c.args.cells.now) c.args.c (missing_corner c.args.corners.now (tables c.args.cells.now)) ≡ false
none_missing c = sym c.lacks_a_corner.ensures ∙ c.if-lacks_a_corner.false

-- past the second the cell has three sides
just_three : (c : Then-end-f) → first (tables c.args.cells.now) (suc c.args.c) ≡ first (tables c.args.cells.now) c.args.c + 3
just_three c = omega (arith, c.if-end-f.true, c.end.ensures, c.first-f.ensures)

pub returns-then-lacks_a_corner : goal.returns-then-lacks_a_corner
returns-then-lacks_a_corner c = wrong_by_a_number _ _ _ (sym c.lacks_a_corner.ensures ∙ c.if-lacks_a_corner.true)

pub start-a-requires : goal.start-a-requires
start-a-requires c = side_exists c.args.cells.now.numbered c.requires.c_bound (three_sides c.args.corners.now c.args.cells.now.numbered c.requires.c_bound (just_three c) c.first-f.ensures).0

pub start-b-requires : goal.start-b-requires
start-b-requires c = side_exists c.args.cells.now.numbered c.requires.c_bound (three_sides c.args.corners.now c.args.cells.now.numbered c.requires.c_bound (just_three (goal.at.start-b-requires c).Then-end-f) c.first-f.ensures).1.0

pub start-d-requires : goal.start-d-requires
start-d-requires c = side_exists c.args.cells.now.numbered c.requires.c_bound (three_sides c.args.corners.now c.args.cells.now.numbered c.requires.c_bound (just_three (goal.at.start-d-requires c).Then-end-f) c.first-f.ensures).1.1

pub is_left-requires : goal.is_left-requires
is_left-requires c = let parts = three_there c.args.corners.now c.args.cells.now.numbered c.requires.c_bound (just_three (goal.at.is_left-requires c).Then-end-f) c.first-f.ensures (none_missing (goal.at.is_left-requires c).Else-lacks_a_corner) c.start-a.ensures c.start-b.ensures c.start-d.ensures in
    record { corners_near = c.requires.corners_near; a_bound = parts.0; b_bound = parts.1.0; d_bound = parts.1.1 }

pub returns-then-end-f : goal.returns-then-end-f
returns-then-end-f c = by_its_area c.args.corners.now c.args.cells.now.numbered c.requires.c_bound (just_three (goal.at.returns-then-end-f c).Then-end-f) c.first-f.ensures (none_missing (goal.at.returns-then-end-f c).Else-lacks_a_corner) c.start-a.ensures c.start-b.ensures c.start-d.ensures c.is_left.ensures

pub has_wrong_side-requires : goal.has_wrong_side-requires
has_wrong_side-requires c = record { corners_near = c.requires.corners_near; c_bound = c.requires.c_bound; none_missing = none_missing (goal.at.has_wrong_side-requires c).Else-lacks_a_corner }

pub returns : goal.returns
returns c = rw (← wrong_by_its_sides c.args.corners.now c.args.cells.now.numbered c.requires.c_bound (none_missing (goal.at.returns c).Else-lacks_a_corner)) c.has_wrong_side.ensures

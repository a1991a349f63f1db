-- `checking::check_tables` meets its contract.
use mathlib.Core.Path.{◌≡◌, refl}
use Prim.Native.Nat.{ℕ, ◌≤◌, ◌<◌}
use native.Mathlib.Omega.{arith}
use lib.ListN.{length}
use Rattle.std.specs.Prelude.{Some}
use Rattle.cells.specs.Least.{before}
use Rattle.cells.specs.Lists.{Cells, tabled, corner_count, cell_count, face_count}
use Rattle.cells.specs.Check.{first_wrong_corner, first_wrong_cell, first_wrong_face, first_wrong_door}
use Rattle.cells.proofs.Least.{none_is_least}
use Rattle.cells.proofs.Searches.{is_before, not_before}
use Rattle.cells.proofs.Plans.{counts, meet_once}
use Rattle.cells.proofs.Checks.{corners_near, near_is_right, cells_right, at_a_corner, at_a_cell, at_a_face, at_a_door, at_an_overlap, accepted}
use Rattle.checking.proofs.Measures.{few_faces}
use Rattle.checking.proofs.check_tables.Goals as goal
use Rattle.checking.proofs.check_tables.Goals.{Start, In_default, In_default-least_wrong, In_default-least_wrong-2, In_default-least_wrong-3}

abbrev drawn : Start → Cells
drawn s = tabled s.args.faces.now s.args.firsts.now

found : {n k i : ℕ} → Some i ≡ before n k → (i ≡ k) × (i < n)
found e = let it = is_before e in (it.0, omega (arith, it.0, it.1))

-- ---- what passed
corners_pass : (c : In_default) → corner_count c.args.corners.now ≤ first_wrong_corner c.args.corners.now
corners_pass c = not_before c.in_default.ensures

cells_pass : (c : In_default-least_wrong) → cell_count (tabled c.args.faces.now c.args.firsts.now) ≤ first_wrong_cell c.args.corners.now (tabled c.args.faces.now c.args.firsts.now)
cells_pass c = not_before c.in_default-least_wrong.ensures

faces_pass : (c : In_default-least_wrong-2) → face_count (tabled c.args.faces.now c.args.firsts.now) ≤ first_wrong_face (tabled c.args.faces.now c.args.firsts.now)
faces_pass c = not_before c.in_default-least_wrong-2.ensures.value

doors_pass : (c : In_default-least_wrong-3) → length c.args.doors.now ≤ first_wrong_door (tabled c.args.faces.now c.args.firsts.now) c.args.doors.now
doors_pass c = not_before c.in_default-least_wrong-3.ensures

pub returns-in-Some : goal.returns-in-Some
returns-in-Some c = let it = found c.in-Some.ensures in
    record { value = at_a_corner c.args.corners.now (drawn (goal.at.returns-in-Some c).Start) c.args.doors.now c.requires.doors_value it.0 it.1; backed = λ sound. absurd (none_is_least _ _ (near_is_right sound.corners) it.0 it.1) }

pub least_wrong-requires-2 : goal.least_wrong-requires-2
least_wrong-requires-2 c = record { corners_near = corners_near _ (corners_pass (goal.at.least_wrong-requires-2 c).In_default) }

pub returns-in-Some-least_wrong : goal.returns-in-Some-least_wrong
returns-in-Some-least_wrong c = let it = found c.in-Some-least_wrong.ensures in
    record { value = at_a_cell c.args.corners.now (drawn (goal.at.returns-in-Some-least_wrong c).Start) c.args.doors.now c.requires.doors_value (corners_pass (goal.at.returns-in-Some-least_wrong c).In_default) it.0 it.1; backed = λ sound. absurd (none_is_least _ _ sound.cells.right it.0 it.1) }

pub least_wrong-requires-3 : goal.least_wrong-requires-3
least_wrong-requires-3 c = record { meet_once = meet_once c.requires.numbered (cells_right c.args.corners.now _ (cells_pass (goal.at.least_wrong-requires-3 c).In_default-least_wrong)); few_faces = few_faces c.requires.numbered (counts _ _ _ c.requires.doors_value).cells_at_most; backs_len = c.requires.backs_len }

pub returns-in-Some-least_wrong-2 : goal.returns-in-Some-least_wrong-2
returns-in-Some-least_wrong-2 c = let it = found c.in-Some-least_wrong-2.ensures.value in
    record { value = at_a_face c.args.corners.now (drawn (goal.at.returns-in-Some-least_wrong-2 c).Start) c.args.doors.now c.requires.doors_value (corners_pass (goal.at.returns-in-Some-least_wrong-2 c).In_default) (cells_pass (goal.at.returns-in-Some-least_wrong-2 c).In_default-least_wrong) it.0 it.1; backed = λ sound. absurd (none_is_least _ _ sound.neighbours.right it.0 it.1) }

pub returns-in-Some-least_wrong-3 : goal.returns-in-Some-least_wrong-3
returns-in-Some-least_wrong-3 c = let it = found c.in-Some-least_wrong-3.ensures in
    record { value = at_a_door c.args.corners.now (drawn (goal.at.returns-in-Some-least_wrong-3 c).Start) c.args.doors.now c.requires.doors_value (corners_pass (goal.at.returns-in-Some-least_wrong-3 c).In_default) (cells_pass (goal.at.returns-in-Some-least_wrong-3 c).In_default-least_wrong) (faces_pass (goal.at.returns-in-Some-least_wrong-3 c).In_default-least_wrong-2) it.0 it.1; backed = λ sound. absurd (none_is_least _ _ sound.doors it.0 it.1) }

pub least_overlapping-requires-clause-ready : goal.least_overlapping-requires-clause-ready
least_overlapping-requires-clause-ready c = record { near = corners_near _ (corners_pass (goal.at.least_overlapping-requires-clause-ready c).In_default); numbered = c.requires.numbered; right = cells_right _ _ (cells_pass (goal.at.least_overlapping-requires-clause-ready c).In_default-least_wrong) }

pub least_overlapping-requires-clause-few : goal.least_overlapping-requires-clause-few
least_overlapping-requires-clause-few c = (counts _ _ _ c.requires.doors_value).cells_at_most

pub returns-in-Some-least_overlapping : goal.returns-in-Some-least_overlapping
returns-in-Some-least_overlapping c = let it = found c.in-Some-least_overlapping.ensures.value in
    record { value = at_an_overlap c.args.corners.now (drawn (goal.at.returns-in-Some-least_overlapping c).Start) c.args.doors.now c.requires.doors_value (corners_pass (goal.at.returns-in-Some-least_overlapping c).In_default) (cells_pass (goal.at.returns-in-Some-least_overlapping c).In_default-least_wrong) (faces_pass (goal.at.returns-in-Some-least_overlapping c).In_default-least_wrong-2) (doors_pass (goal.at.returns-in-Some-least_overlapping c).In_default-least_wrong-3) it.0 it.1; backed = λ sound. (c.in_default-least_wrong-2.ensures.backed refl, c.least_overlapping.ensures.boxed) }

pub returns : goal.returns
returns c =
    record { value = rw c.count.ensures (accepted c.args.corners.now (drawn (goal.at.returns c).Start) c.args.doors.now c.requires.doors_value (corners_pass (goal.at.returns c).In_default) (cells_pass (goal.at.returns c).In_default-least_wrong) (faces_pass (goal.at.returns c).In_default-least_wrong-2) (doors_pass (goal.at.returns c).In_default-least_wrong-3) (not_before c.in_default-least_overlapping.ensures.value)); backed = λ sound. (c.in_default-least_wrong-2.ensures.backed refl, c.least_overlapping.ensures.boxed) }

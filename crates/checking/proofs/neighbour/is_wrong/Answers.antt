-- `checking::neighbour::is_wrong` meets its contract.
use mathlib.Core.Path.{sym, ◌∙◌}
use Prim.Native.Nat.{◌<◌}
use native.Mathlib.Omega.{arith}
use Rattle.cells.specs.Lists.{face_count}
use Rattle.cells.proofs.Faces.{side_exists}
use Rattle.cells.proofs.Neighbours.{wall_is_right}
use Rattle.cells.proofs.Searches.{is_before}
use Rattle.face.specs.Tables.{tables}
use Rattle.checking.proofs.Neighbours.{no_such_cell, none_answers, right_if_answered, answer_exists}
use Rattle.checking.proofs.Backs.{wall_backed, face_backed}
use Rattle.checking.proofs.neighbour.is_wrong.Goals as goal
use Rattle.checking.proofs.neighbour.is_wrong.Goals.{Start}

face_exists : (s : Start) → s.args.f < face_count (tables s.args.cells.now)
face_exists s = side_exists s.args.cells.now.numbered s.requires.c_bound s.requires.f_side

pub neighbour-d-requires : goal.neighbour-d-requires
neighbour-d-requires c = face_exists (goal.at.neighbour-d-requires c).Start

pub returns-then-d : goal.returns-then-d
returns-then-d c =
    let is_wall = sym c.neighbour-d.ensures ∙ c.if-d.true in
    record { value = sym (wall_is_right _ _ is_wall); backed_with_it = λ e. wall_backed c.requires.backed_before is_wall }

pub returns-then-count-d-clause-value : goal.returns-then-count-d-clause-value
returns-then-count-d-clause-value c = sym (no_such_cell _ _ c.neighbour-d.ensures c.if-d.false (omega (arith, c.count.ensures, c.if-count-d.true)))

pub overflow_cast-backs : goal.overflow_cast-backs
overflow_cast-backs c = omega (arith, c.requires.few_faces, answer_exists _ _ c.neighbour-d.ensures (omega (arith, c.count.ensures, c.if-count-d.false)) c.in-Some.ensures c.args.cells.now.numbered)

pub offset_bounds-backs-f : goal.offset_bounds-backs-f
offset_bounds-backs-f c = omega (arith, face_exists (goal.at.offset_bounds-backs-f c).Start, c.requires.few_faces)

pub bounds-backs-f : goal.bounds-backs-f
bounds-backs-f c = omega (arith, face_exists (goal.at.bounds-backs-f c).Start, c.requires.backed_before.whole)

pub returns-in-Some : goal.returns-in-Some
returns-in-Some c =
    let right = right_if_answered _ _ c.neighbour-d.ensures (omega (arith, c.count.ensures, c.if-count-d.false)) c.in-Some.ensures in
    record { value = sym right; backed_with_it = λ e. face_backed c.requires.backed_before (face_exists (goal.at.returns-in-Some c).Start) (is_before c.in-Some.ensures).0 }

pub returns-in-None-clause-value : goal.returns-in-None-clause-value
returns-in-None-clause-value c = sym (none_answers _ _ c.neighbour-d.ensures (omega (arith, c.count.ensures, c.if-count-d.false)) c.if-d.false c.in-None.ensures)

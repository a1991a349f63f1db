-- `draw::draw_polygons` meets its contract.
use mathlib.Core.List.{List, ◌∷◌}
use mathlib.Core.Path.{◌≡◌, ap, subst, ◌∙◌}
use Prim.Native.Nat.{ℕ, ◌*◌}
use native.Mathlib.Omega.{arith}
use lib.ListN.{take, drop}
use lib.Seq.{drop-drop}
use Rattle.limits.specs.Limits.{polygons}
use Rattle.cells.specs.Cut.{cells_of}
use Rattle.cells.proofs.Cuts.{cut_no_polygons}
use Rattle.draw.proofs.Passed.{Passed, Ahead, polygon_ahead, polygon_passed}
use Rattle.draw.proofs.Drawn.{drawing_begins, drawing_goes_on, drawing_ends}
use Rattle.draw.proofs.draw_polygons.Goals as goal
use Rattle.draw.proofs.draw_polygons.Goals.{In-Some}

-- a cell is at the beginning of the rest, and ahead
at_a_cell : (c : In-Some) → Passed polygons c.args.cells.now (c.in-Some.sides.now ∷ c.in-Some.behind.now) c.loop-sides.c c.loop-sides.first c.loop-sides.invariant.done
at_a_cell c = let l = c.loop-sides in
    subst (λ (r : List ℕ). Passed polygons c.args.cells.now r l.c l.first l.invariant.done) c.in-Some.ensures.cases.0 l.invariant.passed

ahead : (c : In-Some) → Ahead (cells_of polygons c.args.cells.now) c.in-Some.sides.now c.in-Some.behind.now c.loop-sides.c c.loop-sides.first
ahead c = polygon_ahead (at_a_cell c) c.requires.cut_whole

pub loop-sides-init : goal.loop-sides-init
loop-sides-init c = drawing_begins polygons _ _ _ c.requires.faces_len c.requires.firsts_len

pub split_at-requires : goal.split_at-requires
split_at-requires c = omega (arith, ahead (goal.at.split_at-requires c).In-Some)

pub split_at-requires-in-Some : goal.split_at-requires-in-Some
split_at-requires-in-Some c = omega (arith, ahead (goal.at.split_at-requires-in-Some c).In-Some)

pub draw_cell-requires-clause-room : goal.draw_cell-requires-clause-room
draw_cell-requires-clause-room c = omega (arith, ahead (goal.at.draw_cell-requires-clause-room c).In-Some, c.loop-sides.invariant.faces_room)

pub overflow_add-c : goal.overflow_add-c
overflow_add-c c = omega (arith, ahead (goal.at.overflow_add-c c).In-Some, c.loop-sides.invariant.firsts_room)

pub overflow_add-first : goal.overflow_add-first
overflow_add-first c = omega (arith, ahead (goal.at.overflow_add-first c).In-Some)

pub overflow_cast-firsts : goal.overflow_cast-firsts
overflow_cast-firsts c = omega (arith, ahead (goal.at.overflow_cast-firsts c).In-Some)

pub offset_bounds-firsts-c : goal.offset_bounds-firsts-c
offset_bounds-firsts-c c = omega (arith, ahead (goal.at.offset_bounds-firsts-c c).In-Some, c.loop-sides.invariant.firsts_room)

pub bounds-firsts-c : goal.bounds-firsts-c
bounds-firsts-c c = omega (arith, ahead (goal.at.bounds-firsts-c c).In-Some, c.loop-sides.invariant.firsts_room)

pub loop-sides-preserved : goal.loop-sides-preserved
loop-sides-preserved c =
    let s = (goal.at.loop-sides-preserved c).In-Some in
    let a = ahead s in
    let n : ℕ = c.in-Some.sides.now in
    let xs : List ℕ = c.in-Some.behind.now in
    let rest : c.split_at-in-Some.result.1.now ≡ drop (2 * n) xs =
    c.split_at-in-Some.ensures.back ∙ ap (drop n) c.split_at.ensures.back ∙ drop-drop n n xs ∙ ap (λ (j : ℕ). drop j xs) (omega arith) in
    drawing_goes_on c.loop-sides.invariant c.requires.cut_whole xs n a.room c.split_at.ensures.front (c.split_at-in-Some.ensures.front ∙ ap (take n) c.split_at.ensures.back)
    (omega arith) (polygon_passed (at_a_cell s) a.at_least a.at_most a.room rest (omega arith)) c.draw_cell.ensures

pub returns : goal.returns
returns c = let parts = drawing_ends c.loop-sides.invariant c.in_default.ensures.cases cut_no_polygons in
    record { faces_after = parts.0; firsts_after = parts.1 }

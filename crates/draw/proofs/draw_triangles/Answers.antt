-- `draw::draw_triangles` meets its contract.
use mathlib.Core.Path.{◌≡◌, ap}
use Prim.Native.Nat.{◌*◌}
use native.Mathlib.Omega.{arith}
use lib.ListN.{length, length-append}
use Rattle.std.specs.Iterator.Adapters.{enumerate_source, enumerate_count}
use Rattle.std.specs.Slice.Iter.{chunks_exact_rest}
use Rattle.limits.specs.Limits.{triangles}
use Rattle.cells.specs.Cut.{cells_of}
use Rattle.cells.proofs.Cuts.{cut_no_triangles}
use Rattle.cells.proofs.Tables.{count_of_triangles}
use Rattle.draw.proofs.Passed.{Ahead, whole_behind, triangle_ahead}
use Rattle.draw.proofs.Drawn.{drawing_begins, triangle_drawn, drawing_ends}
use Rattle.draw.proofs.draw_triangles.Goals as goal
use Rattle.draw.proofs.draw_triangles.Goals.{In-Some}

-- a cell is at the beginning of the rest, and ahead
ahead : (c : In-Some) → let s = c.loop-c.c-iterator in Ahead (cells_of triangles c.args.cells.now) 3 (chunks_exact_rest (enumerate_source s)) (enumerate_count s) (3 * enumerate_count s)
ahead c =
    let e = c.in-Some.ensures.steps.0.1 in
    triangle_ahead c.loop-c.invariant.drawn.passed c.requires.cut_whole (omega (arith, ap length e.0, length-append c.in-Some.cell.now (chunks_exact_rest (enumerate_source c.next.new.self)), c.loop-c.invariant.six))

pub loop-c-init : goal.loop-c-init
loop-c-init c =
    let s = c.into_iter-c-iterator.result in
    let begun : chunks_exact_rest (enumerate_source s) ≡ c.args.cells.now = cc in
    let none : enumerate_count s ≡ 0 = cc in
    record { drawn = rw (begun, none) (drawing_begins triangles _ _ _ c.requires.faces_len c.requires.firsts_len); six = cc }

pub draw_cell-requires-clause-room : goal.draw_cell-requires-clause-room
draw_cell-requires-clause-room c = omega (arith, ahead (goal.at.draw_cell-requires-clause-room c).In-Some, c.loop-c.invariant.drawn.faces_room, c.in-Some.ensures.steps)

pub overflow_cast-firsts : goal.overflow_cast-firsts
overflow_cast-firsts c = omega (arith, ahead (goal.at.overflow_cast-firsts c).In-Some, c.in-Some.ensures.steps)

pub bounds-firsts-c : goal.bounds-firsts-c
bounds-firsts-c c = omega (arith, ahead (goal.at.bounds-firsts-c c).In-Some, c.loop-c.invariant.drawn.firsts_room, c.in-Some.ensures.steps)

pub loop-c-preserved : goal.loop-c-preserved
loop-c-preserved c =
    let l = c.loop-c.invariant in
    let e = c.in-Some.ensures.steps in
    record {
      drawn = triangle_drawn c.in-Some.cell.now l.drawn c.requires.cut_whole e.0.1.0 (omega arith) c.split_at.ensures.front c.split_at.ensures.back e.1 e.2 c.draw_cell.ensures;
      six = omega arith;
    }

pub returns : goal.returns
returns c =
    let l = c.loop-c.invariant in
    let e = c.in-None.ensures.steps in
    let all = count_of_triangles _ (whole_behind l.drawn.passed c.requires.cut_whole) in
    let parts = drawing_ends l.drawn (omega arith) cut_no_triangles in
    record { faces_after = parts.0; firsts_after = parts.1 }

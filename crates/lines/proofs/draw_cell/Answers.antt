-- `lines::draw_cell` meets its contract.
use mathlib.Core.Path.{ap₂, ◌∙◌, ◌≡◌}
use Prim.Native.Nat.{ℕ, suc, ◌-◌, ◌<◌}
use native.Mathlib.Omega.{arith}
use Rattle.cells.specs.Lists.{face_count, first, side_count, start}
use Rattle.cells.proofs.Faces.{SideOf, side_exists}
use Rattle.face.specs.Tables.{around, tables}
use Rattle.face.proofs.Tables.{read_next, next_exists}
use Rattle.lines.proofs.Sides.{side_drawn}
use Rattle.lines.proofs.draw_cell.Goals as goal
use Rattle.lines.proofs.draw_cell.Goals.{After-after-next}

-- face f is a side of the cell
side : (c : After-after-next) → SideOf (tables c.args.cells.now) c.args.c c.loop-f.f
side c = record { not_before = omega (arith, c.first-begin.ensures); not_after = omega (arith, c.end-end.ensures) }

exists : (c : After-after-next) → c.loop-f.f < face_count (tables c.args.cells.now)
exists c = side_exists c.args.cells.now.numbered c.requires.c_bound (side c)

-- the side after it, as it was found
found : (c : After-after-next) → let T = tables c.args.cells.now in c.after-next.result ≡ around (first T c.args.c) (first T (suc c.args.c)) c.loop-f.f
found c = c.after-next.ensures ∙ ap₂ (λ (b e : ℕ). around b e c.loop-f.f) c.first-begin.ensures c.end-end.ensures

-- it is a face
after_exists : (c : After-after-next) → c.after-next.result < face_count (tables c.args.cells.now)
after_exists c = next_exists c.args.cells.now.numbered c.requires.c_bound (side c) (found c)

pub overflow_mul-line : goal.overflow_mul-line
overflow_mul-line c = omega (arith, after_exists (goal.at.overflow_mul-line c).After-after-next, c.requires.few_faces)

pub offset_bounds-cells-next : goal.offset_bounds-cells-next
offset_bounds-cells-next c = omega (arith, after_exists (goal.at.offset_bounds-cells-next c).After-after-next, c.requires.few_faces)

pub bounds-cells-next : goal.bounds-cells-next
bounds-cells-next c = omega (arith, after_exists (goal.at.bounds-cells-next c).After-after-next)

pub beyond-requires-clause-f_bound : goal.beyond-requires-clause-f_bound
beyond-requires-clause-f_bound c = exists (goal.at.beyond-requires-clause-f_bound c).After-after-next

pub overflow_cast-line : goal.overflow_cast-line
overflow_cast-line c = omega (arith, after_exists (goal.at.overflow_cast-line c).After-after-next, c.requires.few_faces)

pub draw_side-requires : goal.draw_side-requires
draw_side-requires c = omega (arith, exists (goal.at.draw_side-requires c).After-after-next, c.loop-f.invariant.whole)

pub loop-f-preserved : goal.loop-f-preserved
unfolding start
loop-f-preserved c = let T = tables c.args.cells.now in
    let more : c.end-end.result - c.first-begin.result - 2 ≡ side_count T c.args.c - 2 = omega (arith, c.first-begin.ensures, c.end-end.ensures) in
    let at = (goal.at.loop-f-preserved c).After-after-next in
    let is_next = read_next c.args.cells.now.numbered c.requires.c_bound (side at) (found at) in
    rw c.draw_side.ensures (side_drawn c.args.cells.now.numbered c.requires.c_bound (side at) is_next c.beyond.ensures more c.loop-f.invariant)

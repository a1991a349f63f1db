-- `checking::neighbour::least_wrong` meets its contract.
use mathlib.Core.Path.{◌≡◌, ap, sym, ◌∙◌}
use Prim.Native.Nat.{◌<◌}
use native.Mathlib.Omega.{arith}
use Rattle.cells.specs.Lists.{first, face_count, cell_count}
use Rattle.cells.proofs.Faces.{SideOf, side_exists}
use Rattle.face.specs.Tables.{tables}
use Rattle.checking.proofs.Cells.{side_from}
use Rattle.checking.proofs.Backs.{sweep_found, sweep_on, sweep_ends}
use Rattle.checking.proofs.neighbour.least_wrong.Goals as goal
use Rattle.checking.proofs.neighbour.least_wrong.Goals.{After-is_wrong}

cell_exists : (c : After-is_wrong) → c.loop-c.c < cell_count (tables c.args.cells.now)
cell_exists c = omega (arith, c.count-c-end.ensures, c.loop-c-test.true)

side : (c : After-is_wrong) → SideOf (tables c.args.cells.now) c.loop-c.c c.loop-f.f
side c = side_from c.first-f.ensures c.end-f-end.ensures c.loop-f.auto.f c.loop-f-test.true

exists : (c : After-is_wrong) → c.loop-f.f < face_count (tables c.args.cells.now)
exists c = side_exists c.args.cells.now.numbered (cell_exists c) (side c)

pub returns-then-is_wrong : goal.returns-then-is_wrong
returns-then-is_wrong c = record { value = sweep_found c.loop-f.invariant (exists (goal.at.returns-then-is_wrong c).After-is_wrong) (sym c.is_wrong.ensures.value ∙ c.if-is_wrong.true); backed = λ e. cc }

pub loop-f-preserved : goal.loop-f-preserved
loop-f-preserved c = sweep_on c.loop-f.invariant (exists (goal.at.loop-f-preserved c).After-is_wrong) (sym c.is_wrong.ensures.value ∙ c.if-is_wrong.false) (c.is_wrong.ensures.backed_with_it c.if-is_wrong.false)

pub returns : goal.returns
returns c = let all : c.loop-c.c ≡ cell_count (tables c.args.cells.now) = omega (arith, c.count-c-end.ensures, c.loop-c.auto.c-end, c.loop-c-test.false) in
    let ends = sweep_ends c.loop-c.invariant (ap (first (tables c.args.cells.now)) all ∙ c.args.cells.now.numbered.ends) in
    record { value = ends.0; backed = λ e. ends.1 }

use Rattle.cells.specs.Lists.{corner_at}
use mathlib.Core.List.{[], ◌∷◌}
use mathlib.Core.Path.{ap₂}
use lib.IntN.{ℤ}
use mir.Syntax.{w32, w64}
use Rattle.exact.proofs.Bounds.{widened_fits, widened}
use Rattle.plane.specs.Side.{point}
use Rattle.cells.proofs.corner.at.Goals as goal

pub overflow_cast-result : goal.overflow_cast-result
overflow_cast-result c = widened_fits w32 w64 tt (corner_at c.args.corners.now c.args.i).x c.x-1.given

pub overflow_cast-result-2 : goal.overflow_cast-result-2
overflow_cast-result-2 c = widened_fits w32 w64 tt (corner_at c.args.corners.now c.args.i).y c.y-1.given

pub returns : goal.returns
returns c = ap₂ (λ (x y : ℤ). point (x ∷ y ∷ []))
    (widened w32 w64 tt (corner_at c.args.corners.now c.args.i).x c.x-1.given)
    (widened w32 w64 tt (corner_at c.args.corners.now c.args.i).y c.y-1.given)

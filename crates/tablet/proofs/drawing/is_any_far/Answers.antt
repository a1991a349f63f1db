-- `tablet::drawing::is_any_far` meets its contract.
use mathlib.Core.Path.{refl, ◌∙◌}
use native.Mathlib.Omega.{arith}
use Rattle.std.proofs.Common.{rules}
use Rattle.plane.specs.Side.{point}
use Rattle.cells.proofs.Searches.{some_from_any}
use Rattle.fan.specs.Written.{row_at}
use Rattle.tablet.specs.Drawing.{row_far}
use Rattle.tablet.proofs.Rows.{some_row_far}
use Rattle.tablet.proofs.drawing.is_any_far.Goals as goal

pub returns : goal.returns
returns c = let a = c.args in
    some_from_any (λ i. row_far a.corners.now (point a.q) (row_at a.table.now i)) _ _ _ refl refl (omega arith) _ c.any.ensures.ran (λ x q k. search rules) (λ x q k. search rules)
    ∙ some_row_far a.corners.now (point a.q) a.table.now a.rows

-- `checking::cell::has_wrong_side` meets its contract.
use mathlib.Core.Path.{refl}
use Rattle.std.proofs.Common.{rules}
use Rattle.cells.specs.Check.{some_face, wrong_side}
use Rattle.cells.proofs.Searches.{some_from_any}
use Rattle.face.specs.Tables.{tables}
use Rattle.checking.proofs.cell.has_wrong_side.Goals as goal

pub returns : goal.returns
unfolding some_face
returns c = some_from_any (wrong_side c.args.corners.now (tables c.args.cells.now) c.args.c) _ _ _ c.first.ensures c.end.ensures refl _ c.any.ensures.ran (λ x q k. search rules) (λ x q k. search rules)

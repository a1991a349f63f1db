-- `overlap::pair::WithBoxes::separating` meets its contract.
use mathlib.Core.Path.{refl}
use Rattle.std.proofs.Common.{rules}
use Rattle.cells.specs.Check.{separates}
use Rattle.cells.proofs.Searches.{least_from_find}
use Rattle.face.specs.Tables.{tables}
use Rattle.overlap.proofs.pair.WithBoxes.separating.Goals as goal

pub returns : goal.returns
returns c = least_from_find (separates c.args.self.now.corners.now (tables c.args.self.now.cells) c.args.d) _ _ _ c.first.ensures c.end.ensures refl _ c.find.ensures.ran (λ x q k. search rules) (λ x q k. search rules)

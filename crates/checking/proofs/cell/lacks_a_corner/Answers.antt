-- `checking::cell::lacks_a_corner` meets its contract.
use mathlib.Core.Path.{refl}
use borrow.Author.Tests.{tests}
use Rattle.std.proofs.Common.{rules}
use Rattle.std.proofs.lemmas.Iterator.{serves_from_Range}
use Rattle.cells.specs.Check.{some_face, missing_corner}
use Rattle.cells.proofs.Faces.{side_exists}
use Rattle.cells.proofs.Searches.{some_from_any}
use Rattle.face.specs.Tables.{tables}
use Rattle.checking.proofs.Cells.{side_from}
use Rattle.checking.proofs.cell.lacks_a_corner.Goals as goal

pub any-requires-clause-callable : goal.any-requires-clause-callable
any-requires-clause-callable c = serves_from_Range (λ x q k. search rules) (λ x h l. let below = side_exists c.args.cells.now.numbered c.requires (side_from c.first.ensures c.end.ensures h l) in search rules)

pub returns : goal.returns
unfolding some_face missing_corner
returns c = some_from_any (missing_corner c.args.corners.now (tables c.args.cells.now)) _ _ _ c.first.ensures c.end.ensures refl _ c.any.ensures.ran (λ x q k. search (rules, tests)) (λ x q k. search (rules, tests))

-- `checking::cell::least_wrong` meets its contract.
use mathlib.Core.Path.{refl}
use native.Mathlib.Omega.{arith}
use Rattle.std.proofs.Common.{rules}
use Rattle.cells.specs.Check.{wrong_cell}
use Rattle.cells.proofs.Searches.{least_from_find}
use Rattle.face.specs.Tables.{tables}
use Rattle.checking.proofs.cell.least_wrong.Goals as goal

pub returns : goal.returns
returns c = least_from_find (wrong_cell c.args.corners.now (tables c.args.cells.now)) _ _ _ refl c.count.ensures (omega arith) _ c.find.ensures.ran (λ x q k. search rules) (λ x q k. search rules)

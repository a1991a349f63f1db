-- `checking::door::least_wrong` meets its contract.
use mathlib.Core.Path.{refl}
use native.Mathlib.Omega.{arith}
use Rattle.std.proofs.Common.{rules}
use Rattle.cells.specs.Check.{wrong_door}
use Rattle.cells.proofs.Searches.{least_from_find}
use Rattle.face.specs.Tables.{tables}
use Rattle.checking.proofs.door.least_wrong.Goals as goal

pub returns : goal.returns
returns c = least_from_find (wrong_door (tables c.args.cells.now) c.args.doors.now) _ _ _ refl refl (omega arith) _ c.find.ensures.ran (λ x q k. search rules) (λ x q k. search rules)

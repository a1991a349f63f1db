-- `stand::locate::least_doorway` meets its contract.
use mathlib.Core.Path.{refl}
use native.Mathlib.Omega.{arith}
use Rattle.std.proofs.Common.{rules}
use Rattle.std.proofs.lemmas.Iterator.{serves_from_Range}
use Rattle.plane.specs.Side.{point}
use Rattle.cells.proofs.Faces.{SideOf, side_exists}
use Rattle.cells.proofs.Searches.{least_from_find}
use Rattle.face.specs.Tables.{tables}
use Rattle.stand.specs.Find.{within_free}
use Rattle.stand.proofs.locate.least_doorway.Goals as goal

pub find-requires-clause-callable : goal.find-requires-clause-callable
find-requires-clause-callable c = serves_from_Range (λ x q r. search rules) (λ x h l. let s : SideOf (tables c.args.plan.now.cells) c.args.c x = record { not_before = omega (arith, c.first.ensures); not_after = omega (arith, c.end.ensures) } in
    let k = side_exists c.args.plan.now.cells.numbered c.requires.c_bound s in search rules)

pub returns : goal.returns
returns c = let a = c.args in
    least_from_find (within_free a.plan.now.corners.now (tables a.plan.now.cells) a.plan.now.doors.now a.setting (point a.q)) _ _ _ c.first.ensures c.end.ensures refl _ c.find.ensures.ran (λ x q k. search rules) (λ x q k. search rules)

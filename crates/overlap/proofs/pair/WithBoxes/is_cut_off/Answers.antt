-- `overlap::pair::WithBoxes::is_cut_off` meets its contract.
use mathlib.Core.Bool.{not}
use mathlib.Core.Path.{refl, ap}
use native.Mathlib.Omega.{arith}
use Rattle.std.proofs.Common.{rules}
use Rattle.std.proofs.lemmas.Iterator.{serves_from_Range}
use Rattle.plane.specs.Side.{point}
use Rattle.cells.specs.Check.{some_face}
use Rattle.cells.proofs.Faces.{SideOf, side_exists}
use Rattle.cells.proofs.Searches.{some_from_any}
use Rattle.face.specs.Tables.{tables}
use Rattle.overlap.specs.Search.{cut_off}
use Rattle.overlap.proofs.Pairs.{left_of}
use Rattle.overlap.proofs.pair.WithBoxes.is_cut_off.Goals as goal

pub any-requires-clause-callable : goal.any-requires-clause-callable
any-requires-clause-callable c = serves_from_Range (λ x q r. search rules) (λ x h l. let s : SideOf (tables c.args.self.now.cells) c.args.d x = record { not_before = omega (arith, c.first.ensures); not_after = omega (arith, c.end.ensures) } in
    let k = side_exists c.args.self.now.ready.numbered c.requires s in search rules)

pub returns : goal.returns
unfolding cut_off some_face
returns c = ap not (some_from_any (left_of c.args.self.now.corners.now (tables c.args.self.now.cells) (point c.args.ends.from) (point c.args.ends.towards)) _ _ _ c.first.ensures c.end.ensures refl _ c.any.ensures.ran (λ x q k. search rules) (λ x q k. search rules))

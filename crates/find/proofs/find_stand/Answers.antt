-- `find::find_stand` meets its contract.
use mathlib.Core.Path.{◌≡◌, sym, ◌∙◌}
use native.Mathlib.Omega.{arith}
use Rattle.std.specs.Prelude.{Some}
use Rattle.face.specs.Tables.{tables}
use Rattle.find.proofs.Finding.{near_read}
use Rattle.find.proofs.find_stand.Goals as goal

pub locate-requires : goal.locate-requires
locate-requires c = let a = c.args in
    let stands : c.stand_spot.result ≡ Some (c.in_ok-x.x, c.in_ok-x.y) = grind arith in
    near_read a.plan.now.corners.now (tables a.plan.now.cells) a.plan.now.doors.now a.setting a.stand (sym c.stand_spot.ensures ∙ stands)

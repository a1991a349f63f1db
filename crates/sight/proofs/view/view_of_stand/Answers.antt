-- `sight::view::view_of_stand` meets its contract.
use mathlib.Core.Path.{◌≡◌, sym, ◌∙◌}
use native.Mathlib.Omega.{arith}
use Rattle.std.specs.Prelude.{Some}
use Rattle.limits.proofs.Handed.{handed_on}
use Rattle.face.specs.Tables.{tables}
use Rattle.stand.specs.Spot.{stood}
use Rattle.sight.proofs.Views.{reach_refused, near_read, place_refused, stands_at_a_place}
use Rattle.sight.proofs.view.view_of_stand.Goals as goal
use Rattle.sight.proofs.view.view_of_stand.Goals.{In_ok-x}

stands : (c : In_ok-x) → stood c.args.plan.now.corners.now c.args.stand ≡ Some (c.in_ok-x.x, c.in_ok-x.y)
stands c = sym c.stand_spot.ensures ∙ grind arith

pub returns-then-is_wrong : goal.returns-then-is_wrong
returns-then-is_wrong c = let a = c.args in
    reach_refused a.plan.now.corners.now (tables a.plan.now.cells) a.plan.now.doors.now a.setting a.reach a.stand (stands (goal.at.returns-then-is_wrong c).In_ok-x) c.is_wrong.ensures c.if-is_wrong.true

pub locate-requires : goal.locate-requires
locate-requires c = let a = c.args in
    near_read a.plan.now.corners.now (tables a.plan.now.cells) a.plan.now.doors.now a.setting a.reach a.stand (stands (goal.at.locate-requires c).In_ok-x)

pub returns-in_err-footing : goal.returns-in_err-footing
returns-in_err-footing c = let a = c.args in
    handed_on c.from_residual-in_err-footing.ensures.1 ∙ place_refused a.plan.now.corners.now (tables a.plan.now.cells) a.plan.now.doors.now a.setting a.reach a.stand (stands (goal.at.returns-in_err-footing c).In_ok-x) (sym c.is_wrong.ensures ∙ c.if-is_wrong.false) c.locate.ensures c.in_err-footing.was

pub returns : goal.returns
returns c = let a = c.args in
    stands_at_a_place a.plan.now.corners.now (tables a.plan.now.cells) a.plan.now.doors.now a.setting a.reach a.stand (stands (goal.at.returns c).In_ok-x) (sym c.is_wrong.ensures ∙ c.if-is_wrong.false) c.locate.ensures c.in_ok-footing.was

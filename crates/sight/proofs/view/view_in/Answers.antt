-- `sight::view::view_in` meets its contract.
use mathlib.Core.Path.{sym, ap, ◌∙◌}
use Rattle.limits.proofs.Handed.{handed_on}
use native.Mathlib.Omega.{arith}
use Rattle.cells.specs.Lists.{Cells}
use Rattle.cells.proofs.Accepted.{few_doors}
use Rattle.cells.proofs.Plans.{counts}
use Rattle.checking.proofs.Rooms.{drawn_cells, plan_checked}
use Rattle.stand.specs.Spot.{stood}
use Rattle.sight.specs.Listing.{view_of_spot}
use Rattle.sight.proofs.Views.{plan_refused, setting_refused, setting_accepted}
use Rattle.sight.proofs.view.view_in.Goals as goal

pub check_into-requires : goal.check_into-requires
check_into-requires c = record { cells_value = c.requires.cells_value.0; doors_value = c.requires.cells_value.1; faces_len = c.requires.faces_len; firsts_len = c.requires.firsts_len; backs_len = c.requires.backs_len; cells_in_bounds = omega (arith, (counts _ _ _ c.requires.cells_value.1).cells_at_most) }

pub is_wrong-requires : goal.is_wrong-requires
is_wrong-requires c = let a = c.args in
    few_doors a.kind a.corners.now a.cells.now a.doors.now (sym c.check_into.ensures.value ∙ c.in_ok-plan.was)

pub returns-then-is_wrong : goal.returns-then-is_wrong
returns-then-is_wrong c = let a = c.args in
    record { value = setting_refused a.kind a.corners.now a.cells.now a.doors.now a.query (sym c.check_into.ensures.value ∙ c.in_ok-plan.was) c.is_wrong.ensures c.if-is_wrong.true; faces_after = c.check_into.ensures.faces_after; firsts_after = c.check_into.ensures.firsts_after; backed = λ sound. (c.check_into.ensures.backed sound).0 }

pub invariant_of-cells : goal.invariant_of-cells
invariant_of-cells c = let a = c.args in
    record { numbered = (plan_checked a.kind a.corners.now a.cells.now a.doors.now _ _ (drawn_cells a.kind a.cells.now c.check_into.ensures.faces_after c.check_into.ensures.firsts_after) (sym c.check_into.ensures.value ∙ c.in_ok-plan.was) c.check_into.ensures.backed).0.numbered }

pub invariant_of-view_of_stand : goal.invariant_of-view_of_stand
invariant_of-view_of_stand c = let a = c.args in
    let all = plan_checked a.kind a.corners.now a.cells.now a.doors.now _ _ (drawn_cells a.kind a.cells.now c.check_into.ensures.faces_after c.check_into.ensures.firsts_after) (sym c.check_into.ensures.value ∙ c.in_ok-plan.was) c.check_into.ensures.backed in
    record { sound = all.0; backed = all.1; boxed = all.2 }

pub returns-in_err-plan : goal.returns-in_err-plan
returns-in_err-plan c = let a = c.args in
    record { value = handed_on c.from_residual.ensures.1 ∙ plan_refused a.kind a.corners.now a.cells.now a.doors.now a.query (sym c.check_into.ensures.value ∙ c.in_err-plan.was); faces_after = c.check_into.ensures.faces_after; firsts_after = c.check_into.ensures.firsts_after; backed = λ sound. (c.check_into.ensures.backed sound).0 }

pub returns : goal.returns
returns c = let a = c.args in
    let drawn = drawn_cells a.kind a.cells.now c.check_into.ensures.faces_after c.check_into.ensures.firsts_after in
    record {
      value = setting_accepted a.kind a.corners.now a.cells.now a.doors.now a.query (sym c.check_into.ensures.value ∙ c.in_ok-plan.was) c.is_wrong.ensures c.if-is_wrong.false
          (c.view_of_stand.ensures ∙ ap (λ (T : Cells). view_of_spot a.corners.now T a.doors.now a.query.setting a.query.reach (stood a.corners.now a.query.stand)) drawn);
      faces_after = c.check_into.ensures.faces_after;
      firsts_after = c.check_into.ensures.firsts_after;
      backed = λ sound. (c.check_into.ensures.backed sound).0;
    }

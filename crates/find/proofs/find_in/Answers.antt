-- `find::find_in` meets its contract.
use mathlib.Core.Path.{◌∙◌}
use native.Mathlib.Omega.{arith}
use Rattle.limits.proofs.Handed.{handed_on}
use Rattle.cells.proofs.Plans.{counts}
use Rattle.checking.proofs.Rooms.{drawn_cells}
use Rattle.find.proofs.Finding.{doors_read, plan_read, plan_refused, setting_refused, setting_accepted}
use Rattle.find.proofs.find_in.Goals as goal

pub check_into-requires : goal.check_into-requires
check_into-requires c = record { cells_value = c.requires.cells_value.0; doors_value = c.requires.cells_value.1; faces_len = c.requires.faces_len; firsts_len = c.requires.firsts_len; backs_len = c.requires.backs_len; cells_in_bounds = omega (arith, (counts _ _ _ c.requires.cells_value.1).cells_at_most) }

pub is_wrong-requires : goal.is_wrong-requires
is_wrong-requires c = let a = c.args in
    doors_read a.kind a.corners.now a.cells.now a.doors.now c.check_into.ensures.value c.in_ok-plan.was

pub returns-then-is_wrong : goal.returns-then-is_wrong
returns-then-is_wrong c = let a = c.args in
    setting_refused a.kind a.corners.now a.cells.now a.doors.now a.setting a.stand c.check_into.ensures.value c.in_ok-plan.was c.is_wrong.ensures c.if-is_wrong.true

pub invariant_of-cells : goal.invariant_of-cells
invariant_of-cells c = let a = c.args in
    record { numbered = (plan_read a.kind a.corners.now a.cells.now a.doors.now c.check_into.ensures.value c.in_ok-plan.was (drawn_cells a.kind a.cells.now c.check_into.ensures.faces_after c.check_into.ensures.firsts_after) _ _ c.check_into.ensures.backed).0.numbered }

pub invariant_of-find_stand : goal.invariant_of-find_stand
invariant_of-find_stand c = let a = c.args in
    let all = plan_read a.kind a.corners.now a.cells.now a.doors.now c.check_into.ensures.value c.in_ok-plan.was (drawn_cells a.kind a.cells.now c.check_into.ensures.faces_after c.check_into.ensures.firsts_after) _ _ c.check_into.ensures.backed in
    record { sound = all.0; backed = all.1; boxed = all.2 }

pub returns-in_err-plan : goal.returns-in_err-plan
returns-in_err-plan c = let a = c.args in
    handed_on c.from_residual.ensures.1 ∙ plan_refused a.kind a.corners.now a.cells.now a.doors.now a.setting a.stand c.check_into.ensures.value c.in_err-plan.was

pub returns : goal.returns
returns c = let a = c.args in
    setting_accepted a.kind a.corners.now a.cells.now a.doors.now a.setting a.stand c.check_into.ensures.value c.in_ok-plan.was c.is_wrong.ensures c.if-is_wrong.false (drawn_cells a.kind a.cells.now c.check_into.ensures.faces_after c.check_into.ensures.firsts_after) c.find_stand.ensures

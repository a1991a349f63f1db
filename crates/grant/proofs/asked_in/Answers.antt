-- `grant::asked_in` meets its contract.
use mathlib.Core.Path.{sym, ◌∙◌}
use native.Mathlib.Omega.{arith}
use Rattle.limits.proofs.Handed.{handed_on}
use Rattle.cells.proofs.Accepted.{few_corners, few_doors}
use Rattle.grant.proofs.Grants.{plan_refused, few_numbers, setting_refused, table_too_short, too_few_places, granted}
use Rattle.grant.proofs.asked_in.Goals as goal

pub check_into-requires : goal.check_into-requires
check_into-requires c = record { cells_value = c.requires.cells_value.0; doors_value = c.requires.cells_value.1; faces_len = c.requires.faces_len; firsts_len = c.requires.firsts_len; backs_len = c.requires.backs_len; cells_in_bounds = c.requires.cells_in_bounds }

pub is_wrong-requires : goal.is_wrong-requires
is_wrong-requires c = few_doors c.args.kind c.args.corners.now c.args.cells.now c.args.doors.now (sym c.check_into.ensures.value ∙ c.in_ok-plan.was)

pub returns-then-is_wrong : goal.returns-then-is_wrong
returns-then-is_wrong c = record { value = setting_refused c.args.kind c.args.corners.now c.args.cells.now c.args.doors.now c.args.setting c.args.count c.args.room c.args.places c.requires.count_le_most_stands (sym c.check_into.ensures.value ∙ c.in_ok-plan.was) c.is_wrong.ensures c.if-is_wrong.true; faces_after = c.check_into.ensures.faces_after; firsts_after = c.check_into.ensures.firsts_after; backed = c.check_into.ensures.backed }

pub overflow_mul-plan : goal.overflow_mul-plan
overflow_mul-plan c = omega (arith, few_corners c.args.kind c.args.corners.now c.args.cells.now c.args.doors.now (sym c.check_into.ensures.value ∙ c.in_ok-plan.was))

pub overflow_mul-plan-2 : goal.overflow_mul-plan-2
overflow_mul-plan-2 c = omega (arith, few_numbers c.args.kind c.args.corners.now c.args.cells.now c.args.doors.now c.args.setting c.args.count c.args.room c.args.places c.requires.count_le_most_stands (sym c.check_into.ensures.value ∙ c.in_ok-plan.was))

pub returns-then-room-plan : goal.returns-then-room-plan
returns-then-room-plan c = record { value = table_too_short c.args.kind c.args.corners.now c.args.cells.now c.args.doors.now c.args.setting c.args.count c.args.room c.args.places c.requires.count_le_most_stands (sym c.check_into.ensures.value ∙ c.in_ok-plan.was) c.is_wrong.ensures c.if-is_wrong.false c.if-room-plan.true; faces_after = c.check_into.ensures.faces_after; firsts_after = c.check_into.ensures.firsts_after; backed = c.check_into.ensures.backed }

pub returns-then-places-count : goal.returns-then-places-count
returns-then-places-count c = record { value = too_few_places c.args.kind c.args.corners.now c.args.cells.now c.args.doors.now c.args.setting c.args.count c.args.room c.args.places c.requires.count_le_most_stands (sym c.check_into.ensures.value ∙ c.in_ok-plan.was) c.is_wrong.ensures c.if-is_wrong.false c.if-room-plan.false c.if-places-count.true; faces_after = c.check_into.ensures.faces_after; firsts_after = c.check_into.ensures.firsts_after; backed = c.check_into.ensures.backed }

pub returns-in_err-plan : goal.returns-in_err-plan
returns-in_err-plan c = record { value = handed_on c.from_residual.ensures.1 ∙ plan_refused c.args.kind c.args.corners.now c.args.cells.now c.args.doors.now c.args.setting c.args.count c.args.room c.args.places c.requires.count_le_most_stands (sym c.check_into.ensures.value ∙ c.in_err-plan.was); faces_after = c.check_into.ensures.faces_after; firsts_after = c.check_into.ensures.firsts_after; backed = c.check_into.ensures.backed }

pub returns : goal.returns
returns c = record { value = granted c.args.kind c.args.corners.now c.args.cells.now c.args.doors.now c.args.setting c.args.count c.args.room c.args.places c.requires.count_le_most_stands (sym c.check_into.ensures.value ∙ c.in_ok-plan.was) c.is_wrong.ensures c.if-is_wrong.false c.if-room-plan.false c.if-places-count.false; faces_after = c.check_into.ensures.faces_after; firsts_after = c.check_into.ensures.firsts_after; backed = c.check_into.ensures.backed }

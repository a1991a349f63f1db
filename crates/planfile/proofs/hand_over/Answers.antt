-- `planfile::hand_over` meets its contract.
use mathlib.Core.Path.{refl, ap, sym, ◌∙◌}
use native.Mathlib.Omega.{arith}
use Rattle.std.specs.Prelude.{Result}
use Rattle.limits.specs.declared.Plan.{Plan}
use Rattle.limits.specs.declared.Refusal.{Refusal}
use Rattle.limits.proofs.Handed.{handed_on}
use Rattle.records.proofs.Stores.{part_copied}
use Rattle.planfile.specs.Calls.{lists_left}
use Rattle.planfile.proofs.Hands.{not_accepted, no_room_for_corners, no_room_for_cells, no_room_for_doors, all_handed}
use Rattle.planfile.proofs.hand_over.Goals as goal

pub returns-in_err-plan : goal.returns-in_err-plan
returns-in_err-plan c = let parts = not_accepted c.check.ensures c.args.cs.now c.args.ts.now c.args.ds.now c.args.corners.now c.args.cells.now c.args.doors.now c.in_err-plan.was in
    let same = handed_on c.from_residual.ensures.1 in
    record { value = same ∙ parts.0; doors_after = sym (ap (λ (q : Result Plan Refusal). lists_left q c.args.cs.now c.args.ts.now c.args.ds.now c.args.corners.now c.args.cells.now c.args.doors.now) same) }

pub returns-then-corners-cs : goal.returns-then-corners-cs
returns-then-corners-cs c = let parts = no_room_for_corners c.check.ensures c.args.cs.now c.args.ts.now c.args.ds.now c.args.corners.now c.args.cells.now c.args.doors.now c.in_ok-plan.was c.if-corners-cs.true in
    record { value = parts.0; doors_after = parts.1 }

pub returns-then-cells-ts : goal.returns-then-cells-ts
returns-then-cells-ts c = let parts = no_room_for_cells c.check.ensures c.args.cs.now c.args.ts.now c.args.ds.now c.args.corners.now c.args.cells.now c.args.doors.now c.in_ok-plan.was c.if-corners-cs.false c.if-cells-ts.true in
    record { value = parts.0; doors_after = parts.1 }

pub returns-then-doors-ds : goal.returns-then-doors-ds
returns-then-doors-ds c = let parts = no_room_for_doors c.check.ensures c.args.cs.now c.args.ts.now c.args.ds.now c.args.corners.now c.args.cells.now c.args.doors.now c.in_ok-plan.was c.if-corners-cs.false c.if-cells-ts.false c.if-doors-ds.true in
    record { value = parts.0; doors_after = parts.1 }

pub returns : goal.returns
returns c = let parts = all_handed c.check.ensures c.args.cs.now c.args.ts.now c.args.ds.now c.args.corners.now c.args.cells.now c.args.doors.now c.in_ok-plan.was c.if-corners-cs.false c.if-cells-ts.false c.if-doors-ds.false
    (part_copied c.args.corners.now 0 _ _ c.copy_from_slice.ensures.after refl (omega arith)) (part_copied c.args.cells.now 0 _ _ c.copy_from_slice-2.ensures.after refl (omega arith)) (part_copied c.args.doors.now 0 _ _ c.copy_from_slice-3.ensures.after refl (omega arith)) in
    record { value = parts.0; doors_after = parts.1 }

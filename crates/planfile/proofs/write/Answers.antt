-- `planfile::write` meets its contract.
use mathlib.Core.Path.{refl, ap, sym, ◌∙◌}
use Rattle.std.specs.Prelude.{Result}
use Rattle.limits.specs.declared.Plan.{Plan}
use Rattle.limits.specs.declared.Refusal.{Refusal}
use Rattle.limits.proofs.Handed.{handed_on}
use native.Mathlib.Omega.{arith}
use Rattle.planfile.proofs.Accepts.{small}
use Rattle.planfile.proofs.Writes.{length_file, not_accepted, no_room, all_written, records_put}
use Rattle.planfile.proofs.write.Goals as goal

pub returns-in_err-plan : goal.returns-in_err-plan
returns-in_err-plan c = ap (λ (q : Result Plan Refusal). (q, c.args.file.now)) (handed_on c.from_residual.ensures.1) ∙ not_accepted c.args.kind c.args.corners.now c.args.cells.now c.args.doors.now c.args.file.now c.check.ensures c.in_err-plan.was

pub overflow_add-third-2 : goal.overflow_add-third-2
overflow_add-third-2 c = omega (arith, small c.args.kind c.args.corners.now c.args.cells.now c.args.doors.now (sym c.check.ensures ∙ c.in_ok-plan.was))

pub overflow_add-end : goal.overflow_add-end
overflow_add-end c = omega (arith, small c.args.kind c.args.corners.now c.args.cells.now c.args.doors.now (sym c.check.ensures ∙ c.in_ok-plan.was))

pub overflow_add-end-2 : goal.overflow_add-end-2
overflow_add-end-2 c = omega (arith, small c.args.kind c.args.corners.now c.args.cells.now c.args.doors.now (sym c.check.ensures ∙ c.in_ok-plan.was))

pub returns-then-file-end : goal.returns-then-file-end
returns-then-file-end c = no_room c.args.kind c.args.corners.now c.args.cells.now c.args.doors.now c.args.file.now c.check.ensures c.in_ok-plan.was (omega (arith, length_file c.args.kind c.args.corners.now c.args.cells.now c.args.doors.now)) c.if-file-end.true

pub returns : goal.returns
returns c = all_written c.args.kind c.args.corners.now c.args.cells.now c.args.doors.now c.args.file.now c.check.ensures c.in_ok-plan.was (omega (arith, length_file c.args.kind c.args.corners.now c.args.cells.now c.args.doors.now)) c.if-file-end.false
    (records_put c.args.kind c.args.corners.now c.args.cells.now c.args.doors.now c.args.file.now refl refl c.put_corners.ensures c.put_numbers.ensures c.put_numbers-2.ensures)

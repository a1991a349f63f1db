-- `printing::list_read` meets its contract.
use mathlib.Core.Path.{ap, sym, ◌∙◌}
use Rattle.std.specs.Prelude.{Result}
use Rattle.limits.specs.declared.Refusal.{Refusal}
use Rattle.limits.proofs.Handed.{handed_on}
use Rattle.sight.specs.declared.list.Counts.{Counts}
use native.Mathlib.Omega.{arith}
use Prim.Native.Nat.{◌*◌, ◌≤◌}
use lib.ListN.{length}
use lib.Seq.{length-take-le}
use Rattle.limits.specs.Limits.{most_corners}
use Rattle.printing.proofs.Files.{refused_by_the_reader, long, within, listed_from_the_reader}
use Rattle.printing.proofs.list_read.Goals as goal
use Rattle.printing.proofs.list_read.Goals.{In_ok-plan}

-- what is known of the lists that were read
few : (c : In_ok-plan) → 2 * c.in_ok-plan.plan.counts.corners ≤ 2 * most_corners
few c =
    let lists = long c.args.file.now c.args.corners.now c.args.cells.now c.args.doors.now c.requires c.read.ensures.answer c.in_ok-plan.was in
    lists.few_corners

fit : (c : In_ok-plan) → (2 * c.in_ok-plan.plan.counts.corners ≤ length c.read.new.corners) × ((c.in_ok-plan.plan.numbers ≤ length c.read.new.cells) × (c.in_ok-plan.plan.counts.doors ≤ length c.read.new.doors))
fit c = within c.args.file.now c.args.corners.now c.args.cells.now c.args.doors.now c.requires c.read.ensures.answer c.in_ok-plan.was

pub overflow_mul-plan : goal.overflow_mul-plan
overflow_mul-plan c = omega (arith, few (goal.at.overflow_mul-plan c).In_ok-plan)

pub slice_bounds-list-end : goal.slice_bounds-list-end
slice_bounds-list-end c = (fit (goal.at.slice_bounds-list-end c).In_ok-plan).0

pub slice_bounds-list-end-2 : goal.slice_bounds-list-end-2
slice_bounds-list-end-2 c = sym (length-take-le _ _ (fit (goal.at.slice_bounds-list-end-2 c).In_ok-plan).0)

pub slice_bounds-list-end-3 : goal.slice_bounds-list-end-3
slice_bounds-list-end-3 c = (fit (goal.at.slice_bounds-list-end-3 c).In_ok-plan).1.0

pub slice_bounds-list-end-4 : goal.slice_bounds-list-end-4
slice_bounds-list-end-4 c = sym (length-take-le _ _ (fit (goal.at.slice_bounds-list-end-4 c).In_ok-plan).1.0)

pub slice_bounds-list-end-5 : goal.slice_bounds-list-end-5
slice_bounds-list-end-5 c = (fit (goal.at.slice_bounds-list-end-5 c).In_ok-plan).1.1

pub slice_bounds-list-end-6 : goal.slice_bounds-list-end-6
slice_bounds-list-end-6 c = sym (length-take-le _ _ (fit (goal.at.slice_bounds-list-end-6 c).In_ok-plan).1.1)

pub returns-in_err-plan : goal.returns-in_err-plan
returns-in_err-plan c = ap (λ (r : Result Counts Refusal). (r, c.args.table.now)) (handed_on c.from_residual.ensures.1) ∙ refused_by_the_reader c.args.file.now c.args.corners.now c.args.cells.now c.args.doors.now c.requires c.read.ensures.answer _ _ _ c.in_err-plan.was

pub returns : goal.returns
returns c = listed_from_the_reader c.args.file.now c.args.corners.now c.args.cells.now c.args.doors.now c.requires c.read.ensures.answer c.in_ok-plan.was _ _ _ c.list.ensures.answer

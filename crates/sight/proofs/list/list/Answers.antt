-- `sight::list::list` meets its contract.
use mathlib.Core.Path.{ap, sym, ◌∙◌}
use Rattle.std.specs.Prelude.{Result}
use Rattle.limits.specs.declared.Refusal.{Refusal}
use native.Mathlib.Omega.{arith}
use Rattle.limits.proofs.Handed.{handed_on}
use Rattle.checking.specs.Sizes.{Fit}
use Rattle.checking.proofs.Measures.{refused_likewise, counted_fit, faces_fit}
use Rattle.sight.specs.declared.list.Counts.{Counts}
use Rattle.sight.proofs.Views.{plan_refused, listing_refused}
use Rattle.sight.proofs.UpTo.{up_to_it}
use Rattle.sight.proofs.list.list.Goals as goal
use Rattle.sight.proofs.list.list.Goals.{In_ok-sizes}

fit : (c : In_ok-sizes) → Fit c.args.kind c.args.corners.now c.args.cells.now c.args.doors.now c.in_ok-sizes.sizes.cells c.in_ok-sizes.sizes.faces
fit c = counted_fit c.args.kind c.args.corners.now c.args.cells.now c.args.doors.now c.measure.ensures c.in_ok-sizes.was

pub returns-in_err-sizes : goal.returns-in_err-sizes
returns-in_err-sizes c = let a = c.args in
    ap (λ (r : Result Counts Refusal). (r, a.table.now)) (handed_on c.from_residual.ensures.1)
    ∙ up_to_it a.kind a.corners.now a.cells.now a.doors.now a.query a.ceiling a.table.now
    (listing_refused a.kind a.corners.now a.cells.now a.doors.now a.query a.table.now
    (sym (plan_refused a.kind a.corners.now a.cells.now a.doors.now a.query
    (sym (refused_likewise a.kind a.corners.now a.cells.now a.doors.now c.measure.ensures c.in_err-sizes.was)))))

pub list_sized-requires-clause-fit : goal.list_sized-requires-clause-fit
list_sized-requires-clause-fit c = fit (goal.at.list_sized-requires-clause-fit c).In_ok-sizes

pub list_sized-requires-else-sizes-le-FEW_FACES : goal.list_sized-requires-else-sizes-le-FEW_FACES
list_sized-requires-else-sizes-le-FEW_FACES c = let f = fit (goal.at.list_sized-requires-else-sizes-le-FEW_FACES c).In_ok-sizes in
    record { fit = f; room = (omega (arith, faces_fit f), omega arith) }

-- `morning::list_stands` meets its contract.
use mathlib.Core.Path.{◌≡◌, refl, ap, sym, ◌∙◌}
use Rattle.std.specs.Prelude.{Result, Ok}
use Rattle.limits.specs.declared.Refusal.{Refusal}
use Prim.Native.Nat.{◌≤◌}
use lib.ListN.{length}
use Rattle.limits.specs.Limits.{most_stands}
use native.Mathlib.Omega.{arith}
use Rattle.limits.proofs.Handed.{handed_on}
use Rattle.checking.specs.Sizes.{sizes_of, Fit}
use Rattle.checking.proofs.Measures.{counted_fit, faces_fit}
use Rattle.sight.specs.declared.list.Counts.{Counts}
use Rattle.grant.proofs.Grants.{sizes_refused, lists_counted}
use Rattle.morning.proofs.Together.{call_refused}
use Rattle.morning.proofs.list_stands.Goals as goal
use Rattle.morning.proofs.list_stands.Goals.{In_ok-sizes}

-- the sizes are those of the lists, and the stands are not too many
asked : (c : In_ok-sizes) → (sizes_of c.args.kind c.args.corners.now c.args.cells.now c.args.doors.now ≡ Ok c.in_ok-sizes.sizes) × (c.args.morning.count ≤ most_stands)
asked c = lists_counted c.args.kind c.args.corners.now c.args.cells.now c.args.doors.now c.args.morning.count c.measure_for.ensures c.in_ok-sizes.was

fit : (c : In_ok-sizes) → Fit c.args.kind c.args.corners.now c.args.cells.now c.args.doors.now c.in_ok-sizes.sizes.cells c.in_ok-sizes.sizes.faces
fit c = counted_fit c.args.kind c.args.corners.now c.args.cells.now c.args.doors.now (sym (asked c).0) refl

pub returns-in_err-sizes : goal.returns-in_err-sizes
returns-in_err-sizes c = let a = c.args in
    ap (λ (r : Result Counts Refusal). (r, (a.table.now, a.replies.now))) (handed_on c.from_residual.ensures.1)
    ∙ call_refused a.kind a.corners.now a.cells.now a.doors.now a.morning a.stands a.table.now a.replies.now
    (sym (sizes_refused a.kind a.corners.now a.cells.now a.doors.now a.morning.count c.measure_for.ensures c.in_err-sizes.was a.morning.setting (length a.table.now) (length a.replies.now)))

pub list_sized-requires-clause-fit : goal.list_sized-requires-clause-fit
list_sized-requires-clause-fit c = fit (goal.at.list_sized-requires-clause-fit c).In_ok-sizes

pub list_sized-requires-clause-few_stands : goal.list_sized-requires-clause-few_stands
list_sized-requires-clause-few_stands c = (asked (goal.at.list_sized-requires-clause-few_stands c).In_ok-sizes).1

pub list_sized-requires-else-sizes-le-FEW_FACES : goal.list_sized-requires-else-sizes-le-FEW_FACES
list_sized-requires-else-sizes-le-FEW_FACES c = let k = (goal.at.list_sized-requires-else-sizes-le-FEW_FACES c).In_ok-sizes in
    record { fit = fit k; few_stands = (asked k).1; room = (omega (arith, faces_fit (fit k)), omega arith) }

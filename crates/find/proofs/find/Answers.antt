-- `find::find` meets its contract.
use mathlib.Core.Path.{refl, ◌∙◌}
use native.Mathlib.Omega.{arith}
use Rattle.limits.proofs.Handed.{handed_on}
use Rattle.checking.specs.Sizes.{Fit}
use Rattle.checking.proofs.Measures.{refused_likewise, counted_fit, faces_fit}
use Rattle.find.proofs.Finding.{plan_refused}
use Rattle.find.proofs.find.Goals as goal
use Rattle.find.proofs.find.Goals.{In_ok-sizes}

fit : (c : In_ok-sizes) → Fit c.args.kind c.args.corners.now c.args.cells.now c.args.doors.now c.in_ok-sizes.sizes.cells c.in_ok-sizes.sizes.faces
fit c = counted_fit c.args.kind c.args.corners.now c.args.cells.now c.args.doors.now c.measure.ensures c.in_ok-sizes.was

pub returns-in_err-sizes : goal.returns-in_err-sizes
returns-in_err-sizes c = let a = c.args in
    handed_on c.from_residual.ensures.1 ∙ plan_refused a.kind a.corners.now a.cells.now a.doors.now a.setting a.stand (refused_likewise a.kind a.corners.now a.cells.now a.doors.now c.measure.ensures c.in_err-sizes.was) refl

pub find_sized-requires-clause-fit : goal.find_sized-requires-clause-fit
find_sized-requires-clause-fit c = fit (goal.at.find_sized-requires-clause-fit c).In_ok-sizes

pub find_sized-requires-else-sizes-le-FEW_FACES : goal.find_sized-requires-else-sizes-le-FEW_FACES
find_sized-requires-else-sizes-le-FEW_FACES c = let f = fit (goal.at.find_sized-requires-else-sizes-le-FEW_FACES c).In_ok-sizes in
    record { fit = f; room = (omega (arith, faces_fit f), omega arith) }

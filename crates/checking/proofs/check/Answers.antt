-- `checking::check` meets its contract.
use mathlib.Core.Path.{◌∙◌}
use native.Mathlib.Omega.{arith}
use Rattle.limits.proofs.Handed.{handed_on}
use Rattle.checking.specs.Sizes.{Fit}
use Rattle.checking.proofs.Measures.{refused_likewise, counted_fit, faces_fit}
use Rattle.checking.proofs.check.Goals as goal
use Rattle.checking.proofs.check.Goals.{In_ok-sizes}

fit : (c : In_ok-sizes) → Fit c.args.kind c.args.corners.now c.args.cells.now c.args.doors.now c.in_ok-sizes.sizes.cells c.in_ok-sizes.sizes.faces
fit c = counted_fit c.args.kind c.args.corners.now c.args.cells.now c.args.doors.now c.measure.ensures c.in_ok-sizes.was

pub returns-in_err-sizes : goal.returns-in_err-sizes
returns-in_err-sizes c = handed_on c.from_residual.ensures.1 ∙ refused_likewise c.args.kind c.args.corners.now c.args.cells.now c.args.doors.now c.measure.ensures c.in_err-sizes.was

pub check_sized-requires-clause-fit : goal.check_sized-requires-clause-fit
check_sized-requires-clause-fit c = fit (goal.at.check_sized-requires-clause-fit c).In_ok-sizes

pub check_sized-requires-else-sizes-le-FEW_FACES : goal.check_sized-requires-else-sizes-le-FEW_FACES
check_sized-requires-else-sizes-le-FEW_FACES c = let f = fit (goal.at.check_sized-requires-else-sizes-le-FEW_FACES c).In_ok-sizes in
    record { fit = f; room = (omega (arith, faces_fit f), omega arith) }

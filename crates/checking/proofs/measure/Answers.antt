-- `checking::measure` meets its contract.
use mathlib.Core.Path.{◌≡◌, sym, ◌∙◌}
use native.Mathlib.Omega.{arith}
use Rattle.std.specs.Prelude.{Err, None, Some}
use Rattle.limits.specs.declared.Refusal.TheVariants.{Frame}
use Rattle.limits.proofs.Handed.{handed_on}
use Rattle.checking.proofs.Measures.{odd_corners, no_whole_cells, not_in_size, all_counted}
use Rattle.checking.proofs.measure.Goals as goal
use Rattle.checking.proofs.measure.Goals.{In_ok-sizes}

whole : (c : In_ok-sizes) → c.count.result ≡ Some c.in_ok-sizes.sizes
whole c = grind arith

pub returns-then-corners-ne0 : goal.returns-then-corners-ne0
returns-then-corners-ne0 c = odd_corners c.args.kind c.args.corners.now c.args.cells.now c.args.doors.now c.if-corners-ne0.true

pub returns-in_err-sizes : goal.returns-in_err-sizes
returns-in_err-sizes c = let broken : c.count.result ≡ None = grind arith in
    let told : c.ok_or.result ≡ Err Frame = grind (arith, broken) in
    handed_on c.from_residual.ensures.1 ∙ sym c.in_err-sizes.was ∙ told ∙ no_whole_cells c.args.kind c.args.corners.now c.args.cells.now c.args.doors.now c.if-corners-ne0.false c.count.ensures broken

pub returns-then-not-is_sized : goal.returns-then-not-is_sized
returns-then-not-is_sized c = not_in_size c.args.kind c.args.corners.now c.args.cells.now c.args.doors.now c.if-corners-ne0.false c.count.ensures (whole (goal.at.returns-then-not-is_sized c).In_ok-sizes) c.is_sized.ensures c.if-not-is_sized.true

pub returns : goal.returns
returns c = all_counted c.args.kind c.args.corners.now c.args.cells.now c.args.doors.now c.if-corners-ne0.false c.count.ensures (whole (goal.at.returns c).In_ok-sizes) c.is_sized.ensures c.if-not-is_sized.false

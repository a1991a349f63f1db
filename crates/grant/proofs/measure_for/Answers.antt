-- `grant::measure_for` meets its contract.
use mathlib.Core.Path.{◌∙◌}
use Rattle.limits.proofs.Handed.{handed_on}
use Rattle.grant.proofs.Grants.{lists_refused, too_many_asked, counted}
use Rattle.grant.proofs.measure_for.Goals as goal

pub returns-then-count-gt-MOST_STANDS : goal.returns-then-count-gt-MOST_STANDS
returns-then-count-gt-MOST_STANDS c = too_many_asked c.args.kind c.args.corners.now c.args.cells.now c.args.doors.now c.args.count c.measure.ensures c.in_ok-sizes.was c.if-count-gt-MOST_STANDS.true

pub returns-in_err-sizes : goal.returns-in_err-sizes
returns-in_err-sizes c = handed_on c.from_residual.ensures.1 ∙ lists_refused c.args.kind c.args.corners.now c.args.cells.now c.args.doors.now c.args.count c.measure.ensures c.in_err-sizes.was

pub returns : goal.returns
returns c = counted c.args.kind c.args.corners.now c.args.cells.now c.args.doors.now c.args.count c.measure.ensures c.in_ok-sizes.was c.if-count-gt-MOST_STANDS.false

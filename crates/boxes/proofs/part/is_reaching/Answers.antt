-- `boxes::part::is_reaching` meets its contract.
use mathlib.Core.Path.{◌∙◌}
use Rattle.boxes.proofs.Numbers.{test_below_twice, test_above_twice, reaches_right, reaches_left, reaches_up, reaches_down}
use Rattle.boxes.proofs.part.is_reaching.Goals as goal

pub returns-in-true-true : goal.returns-in-true-true
returns-in-true-true c = test_below_twice c.args.line.twice c.args.b.right c.well_formed.1.0.1.1.1.0.1 c.well_formed.0.1.1.1.0.1
    ∙ reaches_right c.args.b c.args.line c.in-true-true.is-0 c.in-true-true.is-1

pub returns-in-true-false : goal.returns-in-true-false
returns-in-true-false c = test_above_twice c.args.line.twice c.args.b.left c.well_formed.1.0.1.1.1.0.1 c.well_formed.0.1.1.0.1
    ∙ reaches_left c.args.b c.args.line c.in-true-false.is-0 c.in-true-false.is-1

pub returns-in-false-true : goal.returns-in-false-true
returns-in-false-true c = test_below_twice c.args.line.twice c.args.b.high c.well_formed.1.0.1.1.1.0.1 c.well_formed.0.1.1.1.1.1.0.1
    ∙ reaches_up c.args.b c.args.line c.in-false-true.is-0 c.in-false-true.is-1

pub returns-in-false-false : goal.returns-in-false-false
returns-in-false-false c = test_above_twice c.args.line.twice c.args.b.low c.well_formed.1.0.1.1.1.0.1 c.well_formed.0.1.1.1.1.0.1
    ∙ reaches_down c.args.b c.args.line c.in-false-false.is-0 c.in-false-false.is-1

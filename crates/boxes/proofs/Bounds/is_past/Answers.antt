-- `boxes::Bounds::is_past` meets its contract.
use borrow.Author.Rules.{rules}
use mir.Syntax.{w32, w64}
use Rattle.exact.proofs.Bounds.{widened_fits}
use Rattle.boxes.proofs.Numbers.{test_past}
use Rattle.boxes.proofs.Bounds.is_past.Goals as goal

pub overflow_cast-left : goal.overflow_cast-left
overflow_cast-left c = widened_fits w32 w64 tt c.args.self.left c.well_formed.0.1.1.0.1

pub overflow_cast-right : goal.overflow_cast-right
overflow_cast-right c = widened_fits w32 w64 tt c.args.self.right c.well_formed.0.1.1.1.0.1

pub overflow_cast-below : goal.overflow_cast-below
overflow_cast-below c = widened_fits w32 w64 tt c.args.self.low c.well_formed.0.1.1.1.1.0.1

pub overflow_cast-above : goal.overflow_cast-above
overflow_cast-above c = widened_fits w32 w64 tt c.args.self.high c.well_formed.0.1.1.1.1.1.0.1

pub returns : goal.returns
returns c = let g = c.well_formed.0.1.1 in
    test_past c.args.self _ _ (search rules) (search rules) g.0.1 g.1.0.1 g.1.1.0.1 g.1.1.1.0.1

-- `boxes::part::through` meets its contract.
use mir.Syntax.{w32, w64}
use Rattle.exact.proofs.Bounds.{plus, fits, widened_fits}
use Rattle.boxes.proofs.Numbers.{made_wide}
use Rattle.boxes.proofs.part.through.Goals as goal

pub overflow_cast-twice : goal.overflow_cast-twice
overflow_cast-twice c = widened_fits w32 w64 tt c.args.b.left c.well_formed.0.1.1.0.1

pub overflow_cast-twice-then-upright : goal.overflow_cast-twice-then-upright
overflow_cast-twice-then-upright c = widened_fits w32 w64 tt c.args.b.right c.well_formed.0.1.1.1.0.1

pub overflow_add-twice : goal.overflow_add-twice
overflow_add-twice c = let b = c.well_formed.0.1.1 in
    fits w64 tt (plus (made_wide c.args.b.left b.0.1) (made_wide c.args.b.right b.1.0.1))

pub overflow_cast-twice-else-upright : goal.overflow_cast-twice-else-upright
overflow_cast-twice-else-upright c = widened_fits w32 w64 tt c.args.b.low c.well_formed.0.1.1.1.1.0.1

pub overflow_cast-twice-else-upright-2 : goal.overflow_cast-twice-else-upright-2
overflow_cast-twice-else-upright-2 c = widened_fits w32 w64 tt c.args.b.high c.well_formed.0.1.1.1.1.1.0.1

pub overflow_add-twice-else-upright : goal.overflow_add-twice-else-upright
overflow_add-twice-else-upright c = let b = c.well_formed.0.1.1 in
    fits w64 tt (plus (made_wide c.args.b.low b.1.1.0.1) (made_wide c.args.b.high b.1.1.1.0.1))

-- `draw::draw_cell` meets its contract.
use mathlib.Core.Path.{refl}
use Rattle.cells.specs.Cut.{pairs}
use Rattle.draw.proofs.Drawn.{one_side_drawn}
use Rattle.draw.proofs.draw_cell.Goals as goal

pub loop-i-init : goal.loop-i-init
unfolding pairs
loop-i-init c = refl

pub loop-i-preserved : goal.loop-i-preserved
loop-i-preserved c = one_side_drawn _ _ _ _ c.requires.as_many c.loop-i-test.true c.loop-i.invariant

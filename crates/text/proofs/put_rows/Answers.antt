use native.Mathlib.Omega.{arith}
use Rattle.text.proofs.Rows.{lines_begin, lines_go_on}
use Rattle.text.proofs.put_rows.Goals as goal

pub loop-i-init : goal.loop-i-init
loop-i-init c = lines_begin _ _ _ (omega (arith, c.requires.room))

pub loop-i-preserved : goal.loop-i-preserved
loop-i-preserved c = lines_go_on c.loop-i.invariant c.put_row-end.ensures.wrote c.put_row-end.ensures.upper_bound

-- `boxes::note` meets its contract.
use mathlib.Core.Path.{ap, ◌∙◌}
use Prim.Native.Nat.{◌*◌}
use native.Mathlib.Omega.{arith}
use lib.ListN.{length}
use lib.Seq.{length-sets}
use Rattle.boxes.proofs.Noted.{four, one_more_boxed}
use Rattle.boxes.proofs.note.Goals as goal

pub loop-c-preserved : goal.loop-c-preserved
loop-c-preserved c = let inv = c.loop-c.invariant in
    let b = c.of_cell in
    let written = c.write.ensures in
    (one_more_boxed inv.0 (omega arith) b.ensures written, ap length written ∙ length-sets c.loop-c.boxes (4 * c.loop-c.c) (four b.result) ∙ inv.1)

-- `boxes::part::pick` meets its contract.
use mathlib.Core.Path.{◌∙◌}
use Prim.Native.Nat.{◌<◌}
use native.Mathlib.Omega.{arith}
use lib.ListN.{length, length-set}
use Rattle.boxes.proofs.Parts.{picked, passed_over}
use Rattle.boxes.proofs.part.pick.Goals as goal
use Rattle.boxes.proofs.part.pick.Goals.{then-is_reaching, else-is_reaching}

pub loop-c-preserved : goal.loop-c-preserved
loop-c-preserved c = let inv = c.loop-c.invariant in
    let k = c.loop-c.k in
    let room : k < length c.loop-c.part = omega (arith, inv.0.at_most) in (
      elim c.if-is_reaching.branch [
        | then-is_reaching w ↦ picked inv.0 room w.k-is
        | else-is_reaching w ↦ passed_over inv.0 c.read.ensures c.is_reaching.ensures w.if-is_reaching.false w.k-is
      ],
      length-set c.loop-c.part k _ ∙ inv.1,
    )

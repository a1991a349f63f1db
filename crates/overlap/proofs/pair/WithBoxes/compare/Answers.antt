-- `overlap::pair::WithBoxes::compare` meets its contract.
use Rattle.overlap.proofs.Settled.{settles_all}
use Rattle.overlap.proofs.pair.WithBoxes.compare.Goals as goal

pub returns : goal.returns
returns c = settles_all c.loop-s.invariant c.loop-s-test.false

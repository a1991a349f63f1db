-- `morning::put` meets its contract.
use native.Mathlib.Omega.{arith}
use lib.ListN.{length-set}
use Rattle.morning.proofs.OverLines.{three_put}
use Rattle.morning.proofs.put.Goals as goal

pub bounds-replies-at-2 : goal.bounds-replies-at-2
bounds-replies-at-2 c = simp length-set (omega (arith, c.requires))

pub bounds-replies-at-3 : goal.bounds-replies-at-3
bounds-replies-at-3 c = simp length-set (omega (arith, c.requires))

pub returns : goal.returns
returns c = three_put c.args.replies.now c.args.at c.args.number c.args.rows c.args.crossings

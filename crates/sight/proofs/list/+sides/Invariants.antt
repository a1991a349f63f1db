-- Each call has one side fewer to follow.
use Rattle.sight.proofs.list.+sides.Given as goal

abbrev pub decreases-sides : goal.decreases-sides
decreases-sides l = l.more

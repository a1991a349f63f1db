use lib.ListN.{length}
use Rattle.limits.specs.Limits.{polygons}
use Rattle.draw.proofs.Drawn.{Drawn}
use Rattle.draw.proofs.draw_polygons.Given as goal

abbrev pub invariant-loop-sides : goal.invariant-loop-sides
invariant-loop-sides l = Drawn polygons l.cells l.faces l.firsts l.rest l.c l.first

abbrev pub decreases-loop-sides : goal.decreases-loop-sides
decreases-loop-sides l = length l.rest

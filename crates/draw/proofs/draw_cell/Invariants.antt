use mathlib.Core.Path.{◌≡◌}
use Prim.Native.Nat.{◌*◌}
use lib.ListN.{take}
use lib.Seq.{sets}
use Rattle.cells.specs.Cut.{pairs}
use Rattle.draw.proofs.draw_cell.Given as goal

abbrev pub invariant-loop-i : goal.invariant-loop-i
invariant-loop-i l = l.faces ≡ sets l.initial.faces (2 * l.f) (pairs (take l.i l.corners) (take l.i l.neighbours))

use mathlib.Core.Path.{◌≡◌}
use lib.ListN.{length}
use Rattle.boxes.specs.Parts.{Picked}
use Rattle.boxes.proofs.part.pick.Given as goal

abbrev pub invariant-loop-c : goal.invariant-loop-c
invariant-loop-c l = Picked l.boxes l.line l.list l.c-index l.part l.k × (length l.part ≡ length l.initial.part)

use mathlib.Core.Path.{◌≡◌}
use lib.ListN.{length}
use Rattle.face.specs.Tables.{tables}
use Rattle.boxes.specs.Boxes.{BoxedBelow}
use Rattle.boxes.proofs.note.Given as goal

abbrev pub invariant-loop-c : goal.invariant-loop-c
invariant-loop-c l = BoxedBelow l.corners (tables l.cells) l.c l.boxes × (length l.boxes ≡ length l.initial.boxes)

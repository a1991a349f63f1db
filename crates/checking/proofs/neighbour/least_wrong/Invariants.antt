use Rattle.cells.specs.Lists.{first}
use Rattle.face.specs.Tables.{tables}
use Rattle.checking.proofs.Backs.{Swept}
use Rattle.checking.proofs.neighbour.least_wrong.Given as goal

abbrev pub invariant-loop-c : goal.invariant-loop-c
invariant-loop-c l = Swept (tables l.cells) l.backs (first (tables l.cells) l.c)

abbrev pub invariant-loop-f : goal.invariant-loop-f
invariant-loop-f l = Swept (tables l.cells) l.backs l.f

use mathlib.Core.List.{[]}
use Rattle.cells.specs.Lists.{first}
use Rattle.face.specs.Tables.{tables}
use Rattle.lines.specs.Lined.{across, Drawn}
use Rattle.lines.proofs.draw.Given as goal

abbrev pub invariant-loop-c : goal.invariant-loop-c
invariant-loop-c l = Drawn (tables l.cells) (across (tables l.cells) [] 0) (first (tables l.cells) l.c) l.lines

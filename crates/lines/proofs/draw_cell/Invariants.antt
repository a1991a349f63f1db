use mathlib.Core.List.{[]}
use Rattle.face.specs.Tables.{tables}
use Rattle.lines.specs.Lined.{across, Drawn}
use Rattle.lines.proofs.draw_cell.Given as goal

abbrev pub invariant-loop-f : goal.invariant-loop-f
invariant-loop-f l = Drawn (tables l.cells) (across (tables l.cells) [] 0) l.f l.lines

use Rattle.face.specs.Tables.{tables}
use Rattle.overlap.specs.Search.{SettlesBelow}
use Rattle.overlap.proofs.pair.WithBoxes.compare.Given as goal

abbrev pub invariant-loop-s : goal.invariant-loop-s
invariant-loop-s l = SettlesBelow l.self.corners.now (tables l.self.cells) l.list l.s l.best l.least

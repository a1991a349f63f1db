use mathlib.Core.List.{map}
use mathlib.Core.Path.{◌≡◌}
use lib.Seq.{sets}
use Rattle.records.specs.Bytes.{numbers_at, signed}
use Rattle.records.proofs.list.get_corners.Given as goal

abbrev pub invariant-loop-i : goal.invariant-loop-i
invariant-loop-i l = l.corners ≡ sets l.initial.corners 0 (map signed (numbers_at 4 l.s l.at l.i))

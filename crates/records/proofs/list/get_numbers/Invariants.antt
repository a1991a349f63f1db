use mathlib.Core.Path.{◌≡◌}
use lib.Seq.{sets}
use Rattle.records.specs.Bytes.{numbers_at}
use Rattle.records.proofs.list.get_numbers.Given as goal

abbrev pub invariant-loop-i : goal.invariant-loop-i
invariant-loop-i l = l.numbers ≡ sets l.initial.numbers 0 (numbers_at 2 l.s l.at l.i)

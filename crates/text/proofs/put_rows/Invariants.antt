use Rattle.text.proofs.Rows.{Lines}
use Rattle.text.proofs.put_rows.Given as goal

abbrev pub invariant-loop-i : goal.invariant-loop-i
invariant-loop-i l = Lines l.table l.initial.text l.at l.text l.end l.i

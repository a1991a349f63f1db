use native.Mathlib.Omega.{arith}
use Rattle.text.proofs.Texts.{joined, one_more}
use Rattle.text.proofs.put_number.Goals as goal

pub returns : goal.returns
returns c = joined c.put_decimal-end.ensures (one_more (omega arith))

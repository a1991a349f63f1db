use mathlib.Core.Path.{refl}
use native.Mathlib.Omega.{arith}
use Rattle.records.proofs.Stores.{part_copied}
use Rattle.text.proofs.put.Goals as goal

pub returns : goal.returns
returns c = record { is = part_copied _ c.args.at _ _ c.copy_from_slice.ensures.after (omega arith) (omega arith); ends = refl; fits = omega arith }

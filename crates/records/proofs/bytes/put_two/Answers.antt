use mathlib.Core.Path.{ap, ◌∙◌}
use lib.ListN.{take}
use native.Mathlib.Omega.{arith}
use Rattle.records.specs.Bytes.{bytes}
use Rattle.records.proofs.Stores.{part_copied}
use Rattle.records.proofs.bytes.put_two.Goals as goal

pub returns : goal.returns
unfolding bytes
returns c = part_copied _ c.args.at _ (bytes 2 c.args.n) (c.copy_from_slice.ensures.after ∙ ap (take 2) c.to_le_bytes.ensures) (omega arith) (omega arith)

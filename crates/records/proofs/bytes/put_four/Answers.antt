use mathlib.Core.Path.{◌≡◌, ap, ◌∙◌}
use Prim.Native.Nat.{ℕ, ◌/◌}
use native.Mathlib.Omega.{arith}
use lib.ListN.{take}
use mir.Syntax.{w64}
use Rattle.std.specs.Int.{to_le_bytes}
use Rattle.records.specs.Bytes.{bytes}
use Rattle.records.proofs.Stores.{part_copied}
use Rattle.records.proofs.bytes.put_four.Goals as goal

lowest : (n : ℕ) → take 4 (to_le_bytes w64 n) ≡ bytes 4 n
unfolding bytes
lowest n =
    let two : n / 65536 ≡ n / 256 / 256 = omega arith in
    let three : n / 16777216 ≡ n / 256 / 256 / 256 = omega arith in
    rw (two, three)

pub returns : goal.returns
unfolding bytes
returns c = part_copied _ c.args.at _ (bytes 4 c.args.n) (c.copy_from_slice.ensures.after ∙ ap (take 4) c.to_le_bytes.ensures ∙ lowest c.args.n) (omega arith) (omega arith)

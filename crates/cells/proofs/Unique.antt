-- The promise of the plan check leaves one reply.
use mathlib.Core.List.{List}
use mathlib.Core.Path.{◌≡◌, sym, ◌∙◌}
use Prim.Native.Nat.{ℕ}
use lib.IntN.{ℤ}
use Rattle.cells.specs.Check.{checked}
use Rattle.limits.specs.declared.Plan.{Plan}
use Rattle.limits.specs.declared.Refusal.{Refusal}
use Rattle.std.specs.Prelude.{Result}

pub check_has_one_reply : (k : ℕ) (cs : List ℤ) (ts ds : List ℕ) {r s : Result Plan Refusal} → r ≡ checked k cs ts ds → s ≡ checked k cs ts ds → r ≡ s
check_has_one_reply k cs ts ds h l = h ∙ sym l

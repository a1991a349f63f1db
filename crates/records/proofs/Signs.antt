-- Signed numbers and their two's complements, as std's casts compute them.
use mathlib.Core.Bool.{Bool, true, false}
use mathlib.Core.Path.{◌≡◌, refl, ap, ◌∙◌}
use Prim.Native.Nat.{ℕ, suc, ◌-◌, ◌^◌, ◌<◌}
use lib.Dec.{ltb}
use lib.IntN.{ℤ, pos, negsuc}
use lib.Signed.{mag}
use mir.Syntax.{w32}
use mir.Val.{to_z, of_z, sel}
use mir.ValLaws.{to_z-of_z}
use Rattle.records.specs.Bytes.{complement, signed}

pub signed_is : (n : ℕ) → to_z w32 n ≡ signed n
unfolding signed
signed_is n = by_test (ltb n (2 ^ 31))
  where
    by_test : (b : Bool) → sel b (pos n) (negsuc (2 ^ 32 - suc n)) ≡ elim b [ true ↦ pos n | false ↦ negsuc (2 ^ 32 - suc n) ]
    by_test true = refl
    by_test false = refl

pub complement_is : (z : ℤ) → of_z w32 z ≡ complement z
complement_is (pos n) = refl
complement_is (negsuc n) = refl

-- what a cast gives of a number that was handed on
pub complement_told : (z : ℤ) → mag z < 2 ^ 31 → {n : ℕ} → n ≡ of_z w32 (to_z w32 (of_z w32 z)) → n ≡ complement z
complement_told z h e = e ∙ ap (of_z w32) (to_z-of_z w32 z (record { sfits = h })) ∙ complement_is z

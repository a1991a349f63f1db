-- What a machine's signed number is, and how large: each need of the code, that a result fits and that it reads back, is one term of these,
-- over the width. `tt` shows that a numeral's bound is below the width's half.
use mathlib.Core.Path.{◌≡◌, refl, ◌∙◌, ap₂, subst, sym}
use Prim.Native.Nat.{ℕ, zero, suc, ◌+◌, ◌*◌, ◌^◌, ◌-◌, ◌≤◌, ◌<◌}
use native.Mathlib.Nat.{le_refl, mul-le-mul}
use native.Mathlib.Omega.{arith}
use mathlib.Core.Bool.{Bool, true, false, cond}
use lib.Dec.{T, ltb, leb, lit<, lit≤, ltb→lt}
use lib.IntN.{ℤ, pos, negsuc, neg_ℤ, nat_abs, sub_ℕ, ◌+ℤ◌, ◌-ℤ◌, ◌*ℤ◌}
use lib.Signed.{mag}
use mir.Syntax.{Width}
use mir.Val.{SFits, hbits, to_z, of_z}
use mir.ValLaws.{to_z-of_z, to_z_pos}
use Rattle.exact.specs.Within.{Within}

-- the code's z is the whole number y, whose size is at most A
pub record Exactly (z y : ℤ) (A : ℕ) : Type 0 where
  pub is : z ≡ y
  pub size : nat_abs y ≤ A

pub itself : {z : ℤ} {A : ℕ} → Within A z → Exactly z z A
itself h = record { is = refl; size = h.size }

-- ---- sizes

size_sub : (a b : ℕ) → nat_abs (sub_ℕ a b) ≤ a + b
size_sub a b = by_test (ltb a b) (ltb→lt a b)
  where
    by_test : (t : Bool) → (T t → a < b) → nat_abs (cond t (negsuc (b - suc a)) (pos (a - b))) ≤ a + b
    by_test true h = let k : a < b = h tt in omega arith
    by_test false h = omega arith

size_neg : (z : ℤ) → nat_abs (neg_ℤ z) ≡ nat_abs z
size_neg (pos zero) = refl
size_neg (pos (suc n)) = refl
size_neg (negsuc n) = refl

size_sum : (x y : ℤ) → nat_abs (x +ℤ y) ≤ nat_abs x + nat_abs y
size_sum (pos a) (pos b) = le_refl (a + b)
size_sum (pos a) (negsuc b) = size_sub a (suc b)
size_sum (negsuc a) (pos b) = let h : nat_abs (sub_ℕ b (suc a)) ≤ b + suc a = size_sub b (suc a) in omega arith
size_sum (negsuc a) (negsuc b) = omega arith

size_product : (x y : ℤ) → nat_abs (x *ℤ y) ≡ nat_abs x * nat_abs y
size_product (pos a) (pos b) = refl
size_product (pos a) (negsuc b) = size_neg (pos (a * suc b))
size_product (negsuc a) (pos b) = size_neg (pos (suc a * b))
size_product (negsuc a) (negsuc b) = refl

size_mag : (z : ℤ) → mag z ≤ nat_abs z
size_mag (pos n) = le_refl n
size_mag (negsuc n) = omega arith

-- ---- sums, differences and products

module _ {z y z' y' : ℤ} {A B : ℕ} (h : Exactly z y A) (k : Exactly z' y' B) where
  pub plus : Exactly (z +ℤ z') (y +ℤ y') (A + B)
  plus =
      let s : nat_abs (y +ℤ y') ≤ nat_abs y + nat_abs y' = size_sum y y' in
      let a : nat_abs y ≤ A = h.size in
      let b : nat_abs y' ≤ B = k.size in
      record { is = ap₂ ◌+ℤ◌ h.is k.is; size = omega arith }

  pub minus : Exactly (z -ℤ z') (y -ℤ y') (A + B)
  minus =
      let s : nat_abs (y -ℤ y') ≤ nat_abs y + nat_abs (neg_ℤ y') = size_sum y (neg_ℤ y') in
      let n : nat_abs (neg_ℤ y') ≡ nat_abs y' = size_neg y' in
      let a : nat_abs y ≤ A = h.size in
      let b : nat_abs y' ≤ B = k.size in
      record { is = ap₂ (λ (u v : ℤ). u -ℤ v) h.is k.is; size = omega arith }

  pub times : Exactly (z *ℤ z') (y *ℤ y') (A * B)
  times = record { is = ap₂ ◌*ℤ◌ h.is k.is; size = rw size_product (mul-le-mul h.size k.size) }

-- ---- at a width

module _ (w : Width) {z y : ℤ} {A : ℕ} (t : T (ltb A (2 ^ hbits w))) (h : Exactly z y A) where
  pub fits : SFits w z
  fits =
      let m : mag y ≤ nat_abs y = size_mag y in
      let a : nat_abs y ≤ A = h.size in
      let l : A < 2 ^ hbits w = lit< t in
      subst (SFits w) (sym h.is) (record { sfits = omega arith })

  pub reads_back : Exactly (to_z w (of_z w z)) y A
  reads_back = record { is = to_z-of_z w z fits ∙ h.is; size = h.size }

-- a number within a bound, read back
pub coordinate : (w : Width) {z : ℤ} {A : ℕ} → T (ltb A (2 ^ hbits w)) → Within A z → Exactly (to_z w (of_z w z)) z A
coordinate w t h = reads_back w t (itself h)

-- what a call hands back is s, also as the next operation reads it
module _ (w : Width) {r s : ℤ} (f : mag r < 2 ^ hbits w) (e : r ≡ s) where
  pub handed : to_z w (of_z w r) ≡ s
  handed = to_z-of_z w r (record { sfits = f }) ∙ e

-- what is exactly y is within every bound that its size is within
pub within : {z y : ℤ} {A B : ℕ} → T (leb A B) → Exactly z y A → Within B z
within {y = y} {A = A} {B = B} t h =
    let a : nat_abs y ≤ A = h.size in
    let l : A ≤ B = lit≤ t in
    subst (Within B) (sym h.is) (record { size = omega arith })

-- an unsigned number, read as a signed one
pub counted : (w : Width) (n : ℕ) {A : ℕ} → T (ltb A (2 ^ hbits w)) → n ≤ A → Exactly (to_z w n) (pos n) A
counted w n {A} t h =
    let l : A < 2 ^ hbits w = lit< t in
    record { is = to_z_pos w n (omega arith); size = h }

-- a number of one width, cast to another that is at least as wide
module _ (w v : Width) (t : T (leb (2 ^ hbits w) (2 ^ hbits v))) (z : ℤ) (f : mag z < 2 ^ hbits w) where
  pub widened_fits : SFits v (to_z w (of_z w z))
  widened_fits =
      let l : 2 ^ hbits w ≤ 2 ^ hbits v = lit≤ t in
      let wide : SFits v z = record { sfits = omega arith } in
      subst (SFits v) (sym (handed w {r = z} {s = z} f refl)) wide

  pub widened : to_z v (of_z v (to_z w (of_z w z))) ≡ z
  widened = to_z-of_z v (to_z w (of_z w z)) widened_fits ∙ handed w {r = z} {s = z} f refl

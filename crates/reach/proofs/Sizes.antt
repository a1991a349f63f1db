-- The code's numbers: a coordinate seen from the stand is at most 2^30, a product of two 2^60, a dot or cross product 2^61.
use Prim.Native.Nat.{ℕ, ◌*◌, ◌^◌, ◌≤◌, ◌<◌}
use native.Mathlib.Nat.{mul-le-mul}
use native.Mathlib.Omega.{arith}
use mathlib.Core.Path.{◌≡◌}
use mathlib.Core.Bool.{true, false}
use lib.Dec.{T, ltb, lit<}
use lib.IntN.{ℤ, pos, nat_abs, ◌+ℤ◌, ◌-ℤ◌, ◌*ℤ◌}
use lib.Signed.{mag, le_z, non_neg, yes_non_neg, pos-nat_abs, ◌<ℤ◌, ◌≤ℤ◌}
use mir.Syntax.{w64}
use mir.Val.{Fits, to_z, of_z}
use Rattle.exact.specs.Within.{Within}
use Rattle.exact.proofs.Order.{𝟘, leZ_true, leZ_false, less_is_at_most, at_most_is_difference}
use Rattle.exact.proofs.Bounds.{Exactly, coordinate, reads_back, handed, counted, plus, minus, times}
use Rattle.plane.specs.Side.{Point}
use Rattle.plane.specs.Cone.{cross, dot}
use Rattle.limits.specs.Limits.{most_reach}
use Rattle.reach.specs.Reach.{most_apart, Apart, squared}

-- a number of the code, read back
abbrev pub back : ℤ → ℤ
back z = to_z w64 (of_z w64 z)

-- the size of a dot product and of a cross product
abbrev pub most_product : ℕ
most_product = 2305843009213693952

pub multiplied : {u v : ℤ} → Within most_apart u → Within most_apart v → Exactly (back u *ℤ back v) (u *ℤ v) 1152921504606846976
multiplied h k = times (coordinate w64 tt h) (coordinate w64 tt k)

-- the dot product and the cross product, as the code makes them
abbrev dot_made : Point → Point → ℤ
dot_made p q = back (back p.x *ℤ back q.x) +ℤ back (back p.y *ℤ back q.y)

abbrev pub cross_made : Point → Point → ℤ
cross_made p q = back (back p.x *ℤ back q.y) -ℤ back (back p.y *ℤ back q.x)

module _ (p q : Point) (h : Apart p) (k : Apart q) where
  pub dot_is : Exactly (dot_made p q) (dot p q) most_product
  unfolding dot
  dot_is = plus (reads_back w64 tt (multiplied h.x_apart k.x_apart)) (reads_back w64 tt (multiplied h.y_apart k.y_apart))

  pub cross_is : Exactly (cross_made p q) (cross p q) most_product
  unfolding cross
  cross_is = minus (reads_back w64 tt (multiplied h.x_apart k.y_apart)) (reads_back w64 tt (multiplied h.y_apart k.x_apart))

  -- as it is handed back
  pub dot_handed : {r : ℤ} → mag r < 2 ^ 63 → r ≡ dot p q → Exactly (back r) (dot p q) most_product
  dot_handed f e = record { is = handed w64 f e; size = dot_is.size }

-- the square of a reach, as the signed tests read it
pub square_read : (R : ℕ) → R ≤ most_reach → Exactly (to_z w64 (R * R)) (squared R) 68719476736
square_read R h = counted w64 (R * R) tt (mul-le-mul h h)

-- ---- what a test of the code's numbers says of the numbers

module _ {z y z' y' : ℤ} {A B : ℕ} (h : Exactly z y A) (k : Exactly z' y' B) where
  pub found_at_most : le_z z z' ≡ true → y ≤ℤ y'
  found_at_most e = leZ_true y y' (rw (h.is, k.is) at e)

  pub found_less : le_z z z' ≡ false → y' <ℤ y
  found_less e = leZ_false y y' (rw (h.is, k.is) at e)

-- ---- casts

-- a number that is not negative, cast to an unsigned one
pub unsigned : {z y : ℤ} {A : ℕ} → T (ltb A (2 ^ 64)) → Exactly z y A → 𝟘 ≤ℤ y → T (non_neg z) × Fits w64 (nat_abs z)
unsigned {z} {y} {A} t h k =
    let a : nat_abs y ≤ A = h.size in
    let l : A < 2 ^ 64 = lit< t in
    rw h.is (yes_non_neg k, record { fits = omega arith })

-- the greater of two products less the other
module _ {z y z' y' : ℤ} (h : Exactly z y most_product) (k : Exactly z' y' most_product) where
  gap : Exactly (back (z -ℤ z')) (y -ℤ y') 4611686018427387904
  gap = reads_back w64 tt (minus h k)

  pub gap_size : nat_abs (back (z -ℤ z')) ≤ 4611686018427387904
  gap_size = rw gap.is gap.size

  pub gap_unsigned : y' <ℤ y → T (non_neg (back (z -ℤ z'))) × Fits w64 (nat_abs (back (z -ℤ z')))
  gap_unsigned l = unsigned tt gap (at_most_is_difference (less_is_at_most l))

  pub gap_cast : y' <ℤ y → pos (nat_abs (back (z -ℤ z'))) ≡ y -ℤ y'
  gap_cast l = rw gap.is (pos-nat_abs (y -ℤ y') (yes_non_neg (at_most_is_difference (less_is_at_most l))))

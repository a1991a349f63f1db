-- The size m·2^e of a finite double: where it is a whole number, and where it is within a bound.
use Rattle.std.proofs.Common.{◌≡◌, ℕ, ◌+◌, ◌*◌, ◌%◌, ◌≤◌, Bool, true, false, eqb, ℤ, sym, refl, div-add-mod', le_of_mul-le-mul_right, mul-div_cancel, arith, eq-eqb, ne_eqb, eqb-true}
use native.Mathlib.Nat.{mul-mod_left}
use lib.Ieee.{fin, up, down}
use lib.Ieee.Fits.{down_pos}
use borrow.Author.Tests.{eqb-false}
use Rattle.number.specs.Whole.{is_whole, size}

-- two equations that hold together are one test
pub same_test : (a b c d : ℕ) → (a ≡ b → c ≡ d) → (c ≡ d → a ≡ b) → eqb a b ≡ eqb c d
same_test a b c d forth back = by_test (eqb a b) refl
  where
    by_test : (t : Bool) → eqb a b ≡ t → t ≡ eqb c d
    by_test true h = sym (eq-eqb c d (forth (eqb-true a b h)))
    by_test false h = sym (ne_eqb c d (λ k. eqb-false a b h (back k)))

module _ (s : Bool) (m : ℕ) (e : ℤ) where
  -- what is cut off, and what is left
  parts : size m e * down e + m * up e % down e ≡ m * up e
  unfolding size
  parts = div-add-mod' (m * up e) (down e)

  pub whole_is_its_size : is_whole (fin s m e) ≡ true → m * up e ≡ size m e * down e
  unfolding is_whole
  whole_is_its_size h =
      let r : m * up e % down e ≡ 0 = eqb-true _ _ h in
      omega (arith, parts)

  pub whole_when_it_is_its_size : is_whole (fin s m e) ≡ eqb (size m e * down e) (m * up e)
  unfolding is_whole
  whole_when_it_is_its_size =
      same_test (m * up e % down e) 0 (size m e * down e) (m * up e) (λ (r : m * up e % down e ≡ 0). omega (arith, parts))
      (λ (k : size m e * down e ≡ m * up e). omega (arith, parts))

  -- cutting off a part leaves it within a bound
  pub size_within : (n : ℕ) → m * up e ≤ n * down e → size m e ≤ n
  size_within n h =
      let c : size m e * down e ≤ n * down e = omega (arith, parts) in
      le_of_mul-le-mul_right c (down_pos e)

  -- the size of a whole number n is n
  module _ (n : ℕ) (h : m * up e ≡ n * down e) where
    pub size_is : size m e ≡ n
    unfolding size
    size_is = rw h (mul-div_cancel n (down_pos e))

    pub is_whole_number : is_whole (fin s m e) ≡ true
    unfolding is_whole
    is_whole_number = rw h (eq-eqb _ _ (mul-mod_left n (down e)))

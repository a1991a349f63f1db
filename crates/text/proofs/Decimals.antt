-- Laws of numbers in decimal.
use mathlib.Core.List.{List, [], ◌∷◌, ◌++◌}
use mathlib.Core.Path.{◌≡◌, refl, sym, ap, ◌∙◌}
use Prim.Native.Nat.{ℕ, zero, suc, ◌+◌, ◌/◌, ◌%◌, ◌^◌, ◌≤◌, ◌<◌}
use native.Mathlib.Nat.{pow-suc}
use native.Mathlib.Omega.{arith}
use native.Mathlib.Decide.{dec_lt}
use borrow.Author.Tests.{lt-ltb, le-ltb}
use mir.Val.{Fits}
use mir.Syntax.{w16, w64}
use lib.ListN.{length, length-append}
use Rattle.text.specs.Text.{digits, decimal}

-- ---- a number's digits do not hang on how many are allowed

one_digit : (k n : ℕ) → n < 10 → digits (suc k) n ≡ (48 + n) ∷ []
unfolding digits
one_digit k n h = rw (lt-ltb n 10 h, digits) refl

more_digits : (k n : ℕ) → 10 ≤ n → digits (suc k) n ≡ digits k (n / 10) ++ ((48 + n % 10) ∷ [])
unfolding digits
more_digits k n h = rw (le-ltb n 10 h, digits) refl

enough : (k j n : ℕ) → n < k → n < j → digits k n ≡ digits j n
enough zero j n h i = absurd (omega arith)
enough (suc k) zero n h i = absurd (omega arith)
enough (suc k) (suc j) n h i = by_size (dec_lt n 10) (λ s. enough k j (n / 10) (omega arith) (omega arith))
  where
    by_size : Dec (n < 10) → (10 ≤ n → digits k (n / 10) ≡ digits j (n / 10)) → digits (suc k) n ≡ digits (suc j) n
    by_size (yes s) above = one_digit k n s ∙ sym (one_digit j n s)
    by_size (no s) above =
        more_digits k n (omega arith)
        ∙ ap (λ (l : List ℕ). l ++ ((48 + n % 10) ∷ [])) (above (omega arith))
        ∙ sym (more_digits j n (omega arith))

-- ---- a number is its last digit, after the digits above it

pub decimal_of_a_digit : (n : ℕ) → n < 10 → decimal n ≡ (48 + n) ∷ []
unfolding decimal
decimal_of_a_digit n h = one_digit n n h

pub decimal_of_more : (n : ℕ) → 10 ≤ n → decimal n ≡ decimal (n / 10) ++ ((48 + n % 10) ∷ [])
unfolding decimal
decimal_of_more n h = more_digits n n h ∙ ap (λ (l : List ℕ). l ++ ((48 + n % 10) ∷ [])) (enough n (suc (n / 10)) (n / 10) (omega arith) (omega arith))

-- ---- how many digits there are

pub no_longer : (k n : ℕ) → n < 10 ^ suc k → length (decimal n) ≤ suc k
no_longer zero n h = rw (decimal_of_a_digit n h) (omega arith)
no_longer (suc k) n h = by_size (dec_lt n 10) (no_longer k (n / 10) (let p = pow-suc 10 (suc k) in omega arith))
  where
    by_size : Dec (n < 10) → length (decimal (n / 10)) ≤ suc k → length (decimal n) ≤ suc (suc k)
    by_size (yes s) above = rw (decimal_of_a_digit n s) (omega arith)
    by_size (no s) above =
        let all = ap length (decimal_of_more n (omega arith)) ∙ length-append (decimal (n / 10)) ((48 + n % 10) ∷ []) in
        omega arith

pub at_most_five : (n : ℕ) → Fits w16 n → length (decimal n) ≤ 5
at_most_five n h = no_longer 4 n (omega (arith, h.fits))

pub at_most_twenty : (n : ℕ) → Fits w64 n → length (decimal n) ≤ 20
at_most_twenty n h = no_longer 19 n (omega (arith, h.fits))

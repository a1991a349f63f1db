-- The numbers of a drawing: those of each row stand at its place, each is exactly the difference, and one row that names a corner too far is enough.
use mathlib.Core.Bool.{true, false, false≢true}
use mathlib.Core.List.{List, [], ◌∷◌, ◌++◌}
use mathlib.Core.Logic.{◌⊎◌, inl, inr}
use mathlib.Core.Path.{◌≡◌, refl, ap, ◌∙◌}
use Prim.Native.Nat.{ℕ, zero, suc, ◌+◌, ◌*◌, ◌<◌}
use native.Mathlib.Omega.{arith}
use lib.ListN.{length, get_or}
use lib.IntN.{ℤ}
use lib.Ieee.{Float, nan, binary32, of_int}
use Rattle.exact.specs.Within.{Within}
use Rattle.exact.proofs.Truth.{one_true, first_true, second_true, neither_true}
use Rattle.plane.specs.Side.{Point}
use Rattle.limits.specs.Limits.{most_offset}
use Rattle.number.specs.Whole.{Is, minus_zero}
use Rattle.number.proofs.Whole.{float_is, float_is_no_minus_zero}
use Rattle.fan.specs.Sight.{Row}
use Rattle.fan.specs.Once.{At}
use Rattle.fan.specs.Once.At.{first, later}
use Rattle.tablet.specs.Drawing.{row_far, any_far, row_offsets, offsets_of}

-- ---- a difference that is not too far

pub exact : (z : ℤ) → Within most_offset z → Is (of_int binary32 z) z
exact z h = float_is binary32 z (record { size = h.size })

pub no_minus_zero : (z : ℤ) → Within most_offset z → of_int binary32 z ≡ minus_zero → ⊥
no_minus_zero z h = float_is_no_minus_zero binary32 z (record { size = h.size })

-- ---- where a row's numbers stand

module _ (cs : List ℤ) (q : Point) where
  pub length_of_offsets : (rs : List Row) → length (offsets_of cs q rs) ≡ 4 * length rs
  unfolding offsets_of
  length_of_offsets [] = refl
  length_of_offsets (r ∷ rs) = let e = length_of_offsets rs in omega arith

  -- one of the four numbers
  of_four : (r : Row) (rest : List Float) (j : ℕ) → j < 4 → get_or (row_offsets cs q r ++ rest) j nan ≡ get_or (row_offsets cs q r) j nan
  of_four r rest zero h = refl
  of_four r rest (suc zero) h = refl
  of_four r rest (suc (suc zero)) h = refl
  of_four r rest (suc (suc (suc zero))) h = refl
  of_four r rest (suc (suc (suc (suc j)))) h = absurd (omega arith)

  pub number_stands : {r : Row} {rs : List Row} {i : ℕ} → At r rs i → (rest : List Float) (j : ℕ) → j < 4 → get_or (offsets_of cs q rs ++ rest) (4 * i + j) nan ≡ get_or (row_offsets cs q r) j nan
  unfolding offsets_of
  number_stands {r} (first {xs = rs}) rest j h =
      let none : 4 * 0 + j ≡ j = omega arith in
      ap (λ (n : ℕ). get_or (offsets_of cs q (r ∷ rs) ++ rest) n nan) none ∙ of_four r (offsets_of cs q rs ++ rest) j h
  number_stands {r} (later {y = s} {xs = rs} {i = i} a) rest j h =
      let four : 4 * suc i + j ≡ suc (suc (suc (suc (4 * i + j)))) = omega arith in
      ap (λ (n : ℕ). get_or (offsets_of cs q (s ∷ rs) ++ rest) n nan) four ∙ number_stands a rest j h

  -- ---- one row that names a corner too far

  pub a_row_is_far : {r : Row} {rs : List Row} {i : ℕ} → At r rs i → row_far cs q r ≡ true → any_far cs q rs ≡ true
  unfolding any_far
  a_row_is_far {r} (first {xs = rs}) h = first_true (row_far cs q r) (any_far cs q rs) h
  a_row_is_far (later {y = s} {xs = rs} a) h = second_true (row_far cs q s) (any_far cs q rs) (a_row_is_far a h)

  pub no_row_is_far : {r : Row} {rs : List Row} {i : ℕ} → At r rs i → any_far cs q rs ≡ false → row_far cs q r ≡ false
  unfolding any_far
  no_row_is_far {r} (first {xs = rs}) h = (neither_true (row_far cs q r) (any_far cs q rs) h).0
  no_row_is_far (later {y = s} {xs = rs} a) h = no_row_is_far a (neither_true (row_far cs q s) (any_far cs q rs) h).1

  pub record FarRow (rs : List Row) : Type 0 where
    pub row : Row
    pub place : ℕ
    pub stands : At row rs place
    pub is_far : row_far cs q row ≡ true

  pub some_row_is_far : (rs : List Row) → any_far cs q rs ≡ true → FarRow rs
  unfolding any_far
  some_row_is_far [] h = absurd (false≢true h)
  some_row_is_far (r ∷ rs) h = by_row (λ e. some_row_is_far rs e) (one_true (row_far cs q r) (any_far cs q rs) h)
    where
      by_row : (any_far cs q rs ≡ true → FarRow rs) → (row_far cs q r ≡ true) ⊎ (any_far cs q rs ≡ true) → FarRow (r ∷ rs)
      by_row further (inl e) = record { row = r; place = 0; stands = first; is_far = e }
      by_row further (inr e) = let f = further e in record { row = f.row; place = suc f.place; stands = later f.stands; is_far = f.is_far }

-- Rows in a table: what stands at a place of the list of rows is read there, and nothing else (document 01, "Reply numbers").
use mathlib.Core.List.{List, [], ◌∷◌, ◌++◌}
use mathlib.Core.Path.{◌≡◌, refl}
use native.Mathlib.Omega.{arith}
use Prim.Native.Nat.{ℕ, zero, suc, ◌+◌, ◌*◌, ◌<◌}
use lib.ListN.{length}
use Rattle.fan.specs.Sight.{Row}
use Rattle.fan.specs.Once.{At, Only}
use Rattle.fan.specs.Once.At.{first, later}
use Rattle.fan.specs.Written.{written, row_at, OneRow}

-- four numbers a row
pub length_of_rows : (rs : List Row) → length (written rs) ≡ 4 * length rs
unfolding written
length_of_rows [] = refl
length_of_rows (r ∷ rs) = let e = length_of_rows rs in omega arith

-- the row at a place stands in the list there
pub row_stands_there : (rs : List Row) (rest : List ℕ) (i : ℕ) → i < length rs → At (row_at (written rs ++ rest) i) rs i
unfolding written
row_stands_there [] rest i h = absurd (omega arith)
row_stands_there (r ∷ rs) rest zero h = first
row_stands_there (r ∷ rs) rest (suc i) h =
    let e₀ : 4 * suc i ≡ suc (suc (suc (suc (4 * i)))) = omega arith in
    let e₁ : 4 * suc i + 1 ≡ suc (suc (suc (suc (4 * i + 1)))) = omega arith in
    let e₂ : 4 * suc i + 2 ≡ suc (suc (suc (suc (4 * i + 2)))) = omega arith in
    let e₃ : 4 * suc i + 3 ≡ suc (suc (suc (suc (4 * i + 3)))) = omega arith in
    rw (e₁, e₂, e₃, e₀) (later (row_stands_there rs rest i (omega arith)))

module _ {A : Type 0} where
  pub place_is_within : {x : A} {xs : List A} {i : ℕ} → At x xs i → i < length xs
  place_is_within first = omega arith
  place_is_within (later p) = let h = place_is_within p in omega arith

  -- one element stands at a place
  pub one_at_a_place : {x y : A} {xs : List A} {i : ℕ} → At x xs i → At y xs i → x ≡ y
  one_at_a_place first first = refl
  one_at_a_place (later p) (later q) = one_at_a_place p q

-- what exactly one of the rows has, exactly one of the table's first rows has, and it is that row
module _ {P : Row → Type 0} (rs : List Row) (rest : List ℕ) {r : Row} (only : Only P rs r) where
  is_there : row_at (written rs ++ rest) only.place ≡ r
  is_there = one_at_a_place (row_stands_there rs rest only.place (place_is_within only.stands)) only.stands

  pub one_row_of_the_table : OneRow P (written rs ++ rest) (length rs) r
  one_row_of_the_table =
      record {
        place = only.place;
        within = place_is_within only.stands;
        stands = is_there;
        has = only.has;
        no_other = λ i h p. only.no_other (row_at (written rs ++ rest) i) i (row_stands_there rs rest i h) p;
      }

-- The numbers of a tree are its rows, written one after another.
use mathlib.Core.List.{List, [], ◌∷◌, ◌++◌}
use mathlib.Core.Path.{◌≡◌, refl, ap, ap₂, sym, ◌∙◌}
use Prim.Native.Nat.{ℕ}
use Rattle.fan.specs.Sight.{Sight, Row, rows, numbers}
use Rattle.fan.specs.Sight.Sight.{row, pass, both, cut}
use Rattle.fan.specs.Written.{written}

written_joined : (a b : List Row) → written (a ++ b) ≡ written a ++ written b
unfolding written
written_joined [] b = refl
written_joined (r ∷ a) b = ap (λ (l : List ℕ). r.face ∷ r.right ∷ r.left ∷ r.far ∷ l) (written_joined a b)

pub numbers_are_the_rows : (t : Sight) → numbers t ≡ written (rows t)
unfolding numbers rows written
numbers_are_the_rows (row f r l k) = refl
numbers_are_the_rows (pass f r l t) = numbers_are_the_rows t
numbers_are_the_rows (both t u) =
    ap₂ (λ (a b : List ℕ). a ++ b) (numbers_are_the_rows t) (numbers_are_the_rows u) ∙ sym (written_joined (rows t) (rows u))
numbers_are_the_rows cut = refl

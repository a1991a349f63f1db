-- Rows as the numbers of a table (document 01, "Reply numbers"; document 02, A5): face, right limit, left limit, in reach or not.
use Rattle.std.specs.Prelude.{List, [], ◌∷◌, ◌≡◌, ℕ, ◌+◌, ◌*◌, ◌<◌, get_or}
use Rattle.fan.specs.Sight.{Row}

unfoldable pub written : List Row → List ℕ
written [] = []
written (r ∷ rs) = r.face ∷ r.right ∷ r.left ∷ r.far ∷ written rs

-- row i of a table
abbrev pub row_at : List ℕ → ℕ → Row
row_at table i =
    record {
      face = get_or table (4 * i) 0;
      right = get_or table (4 * i + 1) 0;
      left = get_or table (4 * i + 2) 0;
      far = get_or table (4 * i + 3) 0;
    }

-- exactly one of the first n rows of the table has P, namely w at its place
pub record OneRow (P : Row → Type 0) (table : List ℕ) (n : ℕ) (w : Row) : Type 0 where
  pub place : ℕ
  pub within : place < n
  pub stands : row_at table place ≡ w
  pub has : P w
  pub no_other : (i : ℕ) → i < n → P (row_at table i) → i ≡ place

-- Rows with their routes (document 01, "Changing a door").
use Rattle.std.specs.Prelude.{List, [], ◌∷◌, ◌++◌, map, ℕ}
use Rattle.fan.specs.Sight.{Sight, Row}
use Rattle.fan.specs.Sight.Sight.{row, pass, both, cut}
use Rattle.fan.specs.Written.{written}

-- a row, and its route: the sequence of free lines crossed to reach it, each by its face on the side seen
pub record Routed : Type 0 where
  pub row : Row
  pub route : List ℕ

-- the faces met on the way to the row and at it
unfoldable pub way : Routed → List ℕ
way x = x.route ++ (x.row.face ∷ [])

-- the row as it is reached by crossing the line of face f first
abbrev pub via : ℕ → Routed → Routed
via f x = record { row = x.row; route = f ∷ x.route }

-- the rows of a tree with their routes, in order
unfoldable pub routed : Sight → List Routed
routed (row f r l k) = record { row = record { face = f; right = r; left = l; far = k }; route = [] } ∷ []
routed (pass f r l t) = map (via f) (routed t)
routed (both t u) = routed t ++ routed u
routed cut = []

-- the rows' numbers, four a row, in order
unfoldable pub row_numbers : List Routed → List ℕ
row_numbers xs = written (map (λ (x : Routed). x.row) xs)

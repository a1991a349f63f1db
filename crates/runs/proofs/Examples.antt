-- Shutting, computed: two visits that stand side by side.
use mathlib.Core.List.{List, [], ◌∷◌}
use mathlib.Core.Path.{◌≡◌, refl}
use Prim.Native.Nat.{ℕ}
use Rattle.runs.specs.Route.{Routed}
use Rattle.runs.specs.Door.{is_door, crosses, side_seen, before, same_to_door}
use Rattle.runs.specs.Shutting.{last, joined, pieces, is_run, door_row, shut_piece, shut_rows}

-- the row in reach with face f, right limit r and left limit l, reached by a route
abbrev pub listed : ℕ → ℕ → ℕ → List ℕ → Routed
listed f r l p = record { row = record { face = f; right = r; left = l; far = 0 }; route = p }

-- a door with faces 5 and 9, crossed after line 1 with two rows and after line 2 with one: two rows on the door, side by side
pub adjacent_visits_stay_two_rows : shut_rows 5 9 (listed 7 1 2 (1 ∷ 5 ∷ []) ∷ listed 8 2 3 (1 ∷ 5 ∷ 6 ∷ []) ∷ listed 8 3 4 (2 ∷ 5 ∷ []) ∷ listed 3 4 1 [] ∷ [])
    ≡ listed 5 1 3 (1 ∷ []) ∷ listed 5 3 4 (2 ∷ []) ∷ listed 3 4 1 [] ∷ []
unfolding is_door crosses side_seen before same_to_door last joined pieces is_run door_row shut_piece shut_rows
adjacent_visits_stay_two_rows = refl

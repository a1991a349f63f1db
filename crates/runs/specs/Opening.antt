-- Sight that ended at some faces goes on there: the reverse of shutting a door (document 01, "Changing a door"), and a longer reach (document 02, A5). F is the
-- floor on which it goes on, and the test names the faces.
use Rattle.std.specs.Prelude.{Bool, true, false, List, [], ◌∷◌, ◌++◌, map, ℕ, ◌-◌, length}
use Rattle.fan.specs.Sight.{Floor, follow}
use Rattle.runs.specs.Route.{Routed, routed}

-- the row as it is reached by a route and then its own
abbrev pub behind : List ℕ → Routed → Routed
behind p x = record { row = x.row; route = p ++ x.route }

module _ (F : Floor) where
  -- all that is seen through the line on which a row stands
  unfoldable pub run_of : ℕ → Routed → List Routed
  run_of n x =
      map (behind x.route) (routed (follow F (n - length x.route) x.row.face x.row.right x.row.left))

  -- on rows with their routes: each row on such a face is replaced by its run
  unfoldable pub open_rows : (ℕ → Bool) → ℕ → List Routed → List Routed
  open_rows stops n [] = []
  open_rows stops n (x ∷ xs) =
      elim (stops x.row.face) [ true ↦ run_of n x ++ open_rows stops n xs | false ↦ x ∷ open_rows stops n xs ]

-- Shutting a door (document 01, "Changing a door"): on rows with their routes, as 01 words it, and on the tree.
use Rattle.std.specs.Prelude.{Bool, true, false, List, [], ◌∷◌, map, ℕ, ◌+◌}
use Rattle.fan.specs.Sight.{Sight, crossings}
use Rattle.fan.specs.Sight.Sight.{row, pass, both, cut}
use Rattle.runs.specs.Route.{Routed}
use Rattle.runs.specs.Door.{is_door, crosses, side_seen, before, same_to_door, those}

-- rows that stand together: the first, and those after it
pub record Piece : Type 0 where
  pub first : Routed
  pub others : List Routed

abbrev pub alone : Routed → Piece
alone x = record { first = x; others = [] }

abbrev pub in_front : Routed → Piece → Piece
in_front x k = record { first = x; others = k.first ∷ k.others }

-- the last of x and the rows after it
unfoldable pub last : Routed → List Routed → Routed
last x [] = x
last x (y ∷ ys) = last y ys

module _ (f₀ g₀ : ℕ) where
  -- a row in front of pieces: it joins the first of them where their routes are the same up to and including the door
  unfoldable pub joined : Routed → List Piece → List Piece
  joined x [] = alone x ∷ []
  joined x (k ∷ ks) = elim (same_to_door f₀ g₀ x.route k.first.route) [ true ↦ in_front x k ∷ ks | false ↦ alone x ∷ k ∷ ks ]

  -- rows with the same route up to and including the door form one run; every other row stands alone
  unfoldable pub pieces : List Routed → List Piece
  pieces [] = []
  pieces (x ∷ xs) = joined x (pieces xs)

  -- a piece is a run where its route crosses the door
  unfoldable pub is_run : Piece → Bool
  is_run k = crosses f₀ g₀ k.first.route

  -- the runs, in order
  unfoldable pub runs : List Routed → List Piece
  runs xs = those is_run (pieces xs)

  -- one row for a run: the door's face on the side seen, the first row's right limit, the last row's left limit; it is in reach, since it was crossed
  unfoldable pub door_row : Piece → Routed
  door_row k =
      record {
        row = record { face = side_seen f₀ g₀ k.first.route; right = k.first.row.right; left = (last k.first k.others).row.left; far = 0 };
        route = before f₀ g₀ k.first.route;
      }

  unfoldable pub shut_piece : Piece → Routed
  shut_piece k = elim (is_run k) [ true ↦ door_row k | false ↦ k.first ]

  -- shutting replaces each run by one row
  unfoldable pub shut_rows : List Routed → List Routed
  shut_rows xs = map shut_piece (pieces xs)

  -- on the tree: sight ends where the door was passed
  unfoldable pub prune : Sight → Sight
  prune (row f r l k) = row f r l k
  prune (pass f r l t) = elim (is_door f₀ g₀ f) [ true ↦ row f r l 0 | false ↦ pass f r l (prune t) ]
  prune (both t u) = both (prune t) (prune u)
  prune cut = cut

  -- the passages that are left
  unfoldable pub crossings_left : Sight → ℕ
  crossings_left (row f r l k) = 0
  crossings_left (pass f r l t) = elim (is_door f₀ g₀ f) [ true ↦ 0 | false ↦ crossings_left t + 1 ]
  crossings_left (both t u) = crossings_left t + crossings_left u
  crossings_left cut = 0

  -- the passages through the door and beyond it
  unfoldable pub crossings_lost : Sight → ℕ
  crossings_lost (row f r l k) = 0
  crossings_lost (pass f r l t) = elim (is_door f₀ g₀ f) [ true ↦ crossings t + 1 | false ↦ crossings_lost t ]
  crossings_lost (both t u) = crossings_lost t + crossings_lost u
  crossings_lost cut = 0

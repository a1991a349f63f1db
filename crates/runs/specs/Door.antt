-- A door is given by its two faces f₀ and g₀. Where it stands on routes and rows (document 01, "Changing a door").
use Rattle.std.specs.Prelude.{Bool, true, false, not, ◌&&◌, ◌||◌, List, [], ◌∷◌, ℕ, eqb}
use Rattle.runs.specs.Route.{Routed}

module _ (f₀ g₀ : ℕ) where
  -- face f is one of the door's two
  unfoldable pub is_door : ℕ → Bool
  is_door f = eqb f f₀ || eqb f g₀

  -- the route crosses the door
  unfoldable pub crosses : List ℕ → Bool
  crosses [] = false
  crosses (f ∷ p) = is_door f || crosses p

  -- the door's face on the side seen: the one by which the route crosses it
  unfoldable pub side_seen : List ℕ → ℕ
  side_seen [] = 0
  side_seen (f ∷ p) = elim (is_door f) [ true ↦ f | false ↦ side_seen p ]

  -- the route up to but not including the door
  unfoldable pub before : List ℕ → List ℕ
  before [] = []
  before (f ∷ p) = elim (is_door f) [ true ↦ [] | false ↦ f ∷ before p ]

  -- two routes cross the door and are the same up to and including it
  unfoldable pub same_to_door : List ℕ → List ℕ → Bool
  same_to_door [] q = false
  same_to_door (f ∷ p) [] = false
  same_to_door (f ∷ p) (g ∷ q) = eqb f g && (is_door f || same_to_door p q)

  -- the row stands on the door
  unfoldable pub on_door : Routed → Bool
  on_door x = is_door x.row.face

  -- the row's route neither crosses the door nor ends on it
  unfoldable pub untouched : Routed → Bool
  untouched x = not (crosses x.route) && not (on_door x)

-- the elements that pass a test, in order
unfoldable pub those : {A : Type 0} → (A → Bool) → List A → List A
those t [] = []
those t (x ∷ xs) = elim (t x) [ true ↦ x ∷ those t xs | false ↦ those t xs ]

-- The door setting (document 01, "Side value and plan check"): a 64-bit word in which bit i is one while door i is shut.
use Rattle.std.specs.Prelude.{Bool, true, false, not, ◌&&◌, ◌||◌, List, ℕ, ◌+◌, ◌-◌, ◌/◌, ◌%◌, ◌^◌, eqb, ltb, length}
use Rattle.limits.specs.Limits.{wall}
use Rattle.cells.specs.Least.{least}
use Rattle.cells.specs.Lists.{Cells, neighbour, back}
use Rattle.cells.specs.Check.{names}

-- door i is shut: bit i of the setting is one
unfoldable pub shut : ℕ → ℕ → Bool
shut w i = eqb (w / 2 ^ i % 2) 1

-- the setting with door i shut, and every other door as it was
unfoldable pub with_shut : ℕ → ℕ → ℕ
with_shut w i = elim (shut w i) [ true ↦ w | false ↦ w + 2 ^ i ]

-- the setting with door i open, and every other door as it was
unfoldable pub with_open : ℕ → ℕ → ℕ
with_open w i = elim (shut w i) [ true ↦ w - 2 ^ i | false ↦ w ]

-- a bit at or above the door count k is one
unfoldable pub wrong_setting : ℕ → ℕ → Bool
wrong_setting w k = not (ltb w (2 ^ k))

-- door e is shut and names face f or face g
unfoldable pub bars : List ℕ → ℕ → ℕ → ℕ → ℕ → Bool
bars ds w f g e = shut w e && names ds f g e

-- sight ends at face f: its neighbour is wall, or a door that is shut names f or the face on its other side
unfoldable pub ends : Cells → List ℕ → ℕ → ℕ → Bool
ends T ds w f = eqb (neighbour T f) wall || ltb (least (bars ds w f (back T f)) (length ds) 0) (length ds)

-- Where handing on the sides of an entered cell begins: what is handed on is the same from there.
use Rattle.std.specs.Prelude.{◌≡◌, ℕ, ◌≤◌}
use Rattle.fan.specs.Sight.{Floor, Place, Sight, fan}
use Rattle.fan.specs.Sight.Place.{between}

-- side f with n sides after it, in place of side e with m sides after it, between the limits r and l
pub record Narrows (F : Floor) (r l m e n f : ℕ) : Type 0 where
  pub no_more : n ≤ m
  pub same : (on : ℕ → ℕ → ℕ → Sight) → fan F on m e r l ≡ fan F on n f r l

-- where n sides follow a side that ends at the corner v, v is strictly between the limits
abbrev pub Splits : (ℕ → ℕ → ℕ → Place) → ℕ → ℕ → ℕ → ℕ → Type 0
Splits place v r l n = (n ≡ 0 → ⊥) → place v r l ≡ between

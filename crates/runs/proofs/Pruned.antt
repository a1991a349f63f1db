-- The tree, pruned at a door.
use mathlib.Core.Bool.{Bool, true, false}
use mathlib.Core.Path.{◌≡◌, refl}
use Prim.Native.Nat.{ℕ, ◌+◌}
use native.Mathlib.Omega.{arith}
use Rattle.fan.specs.Sight.{Sight, crossings, Whole}
use Rattle.fan.specs.Sight.Sight.{row, pass, both, cut}
use Rattle.fan.specs.Sight.Whole.{whole_row, whole_pass, whole_both}
use Rattle.runs.specs.Door.{is_door}
use Rattle.runs.specs.Shutting.{prune, crossings_left, crossings_lost}

module _ (f₀ g₀ f r l : ℕ) (t : Sight) where
  pub sight_ends_at_the_door : is_door f₀ g₀ f ≡ true → prune f₀ g₀ (pass f r l t) ≡ row f r l 0
  unfolding prune
  sight_ends_at_the_door e = rw (e, prune)

  pub sight_passes_elsewhere : is_door f₀ g₀ f ≡ false → prune f₀ g₀ (pass f r l t) ≡ pass f r l (prune f₀ g₀ t)
  unfolding prune
  sight_passes_elsewhere e = rw (e, prune)

module _ (f₀ g₀ : ℕ) where
  -- nothing is cut that was not
  pub pruned_is_whole : {t : Sight} → Whole t → Whole (prune f₀ g₀ t)
  unfolding prune
  pruned_is_whole whole_row = whole_row
  pruned_is_whole (whole_pass {f = f} {r = r} {l = l} {t = t} w) = by_door (pruned_is_whole w) (is_door f₀ g₀ f) refl
    where
      by_door : Whole (prune f₀ g₀ t) → (b : Bool) → is_door f₀ g₀ f ≡ b → Whole (prune f₀ g₀ (pass f r l t))
      by_door v true e = rw (sight_ends_at_the_door f₀ g₀ f r l t e) whole_row
      by_door v false e = rw (sight_passes_elsewhere f₀ g₀ f r l t e) (whole_pass v)
  pruned_is_whole (whole_both w v) = whole_both (pruned_is_whole w) (pruned_is_whole v)

  -- the crossings once the door is shut
  pub crossings_once_shut : (t : Sight) → crossings (prune f₀ g₀ t) ≡ crossings_left f₀ g₀ t
  unfolding prune crossings crossings_left
  crossings_once_shut (row f r l k) = refl
  crossings_once_shut (pass f r l t) = by_door (crossings_once_shut t) (is_door f₀ g₀ f) refl
    where
      by_door : crossings (prune f₀ g₀ t) ≡ crossings_left f₀ g₀ t → (b : Bool) → is_door f₀ g₀ f ≡ b
          → crossings (prune f₀ g₀ (pass f r l t)) ≡ crossings_left f₀ g₀ (pass f r l t)
      by_door ih true e = rw (sight_ends_at_the_door f₀ g₀ f r l t e, e, crossings_left)
      by_door ih false e = rw (sight_passes_elsewhere f₀ g₀ f r l t e, e, crossings_left, ih)
  crossings_once_shut (both t u) = rw (crossings_once_shut t, crossings_once_shut u)
  crossings_once_shut cut = refl

  -- are fewer by the passages through the door and beyond it
  pub crossings_while_open : (t : Sight) → crossings t ≡ crossings (prune f₀ g₀ t) + crossings_lost f₀ g₀ t
  unfolding prune crossings crossings_lost
  crossings_while_open (row f r l k) = refl
  crossings_while_open (pass f r l t) = by_door (crossings_while_open t) (is_door f₀ g₀ f) refl
    where
      by_door : crossings t ≡ crossings (prune f₀ g₀ t) + crossings_lost f₀ g₀ t → (b : Bool) → is_door f₀ g₀ f ≡ b
          → crossings t + 1 ≡ crossings (prune f₀ g₀ (pass f r l t)) + crossings_lost f₀ g₀ (pass f r l t)
      by_door ih true e = rw (sight_ends_at_the_door f₀ g₀ f r l t e, e, crossings_lost) (omega arith)
      by_door ih false e = rw (sight_passes_elsewhere f₀ g₀ f r l t e, e, crossings_lost) (omega arith)
  crossings_while_open (both t u) = omega (arith, crossings_while_open t, crossings_while_open u)
  crossings_while_open cut = refl

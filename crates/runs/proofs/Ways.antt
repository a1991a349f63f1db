-- Every row of a listing has a way of its own: no two have the same route and the same face.
use mathlib.Core.Bool.{Bool, true, false}
use mathlib.Core.List.{List, [], ◌∷◌, ◌++◌, map, head-eq_of_cons-eq, tail-eq_of_cons-eq}
use mathlib.Core.Path.{◌≡◌, refl, sym, ◌∙◌, ap}
use Prim.Native.Nat.{ℕ, zero, suc}
use Rattle.fan.specs.Sight.{Sight}
use Rattle.fan.specs.Once.{At}
use Rattle.fan.specs.Once.At.{first, later}
use Rattle.fan.proofs.Places.{at_no_place, either_list}
use Rattle.runs.specs.Route.{Routed, via, routed, way}
use Rattle.runs.specs.Door.{those}
use Rattle.runs.proofs.Lists.{at_mapped, kept, left_out, stands_in_the_list}
use Rattle.runs.proofs.Through.{NoneInBoth, Through, begin_differently, way_begins_with_the_face}
use Rattle.runs.proofs.Through.Through.{wall, crossed, shared}

-- no two rows of the list have the same way
pub data OwnWays : List Routed → Type 0 where
  none : OwnWays []
  one_more : {x : Routed} {xs : List Routed} → ((y : Routed) (j : ℕ) → At y xs j → way x ≡ way y → ⊥) → OwnWays xs → OwnWays (x ∷ xs)

own_ways_of_both : {xs ys : List Routed} → OwnWays xs → OwnWays ys →
    ((x y : Routed) (i j : ℕ) → At x xs i → At y ys j → way x ≡ way y → ⊥) → OwnWays (xs ++ ys)
own_ways_of_both none v apart = v
own_ways_of_both (one_more {x = x} {xs = xs} n u) v apart =
    one_more
    (λ y j p e. either_list xs p (λ k q. n y k q e) (λ k q. apart x y zero k first q e))
    (own_ways_of_both u v (λ a b i j p q. apart a b (suc i) j (later p) q))

own_ways_further_on : {xs : List Routed} (f : ℕ) → OwnWays xs → OwnWays (map (via f) xs)
unfolding way
own_ways_further_on f none = none
own_ways_further_on f (one_more {xs = xs} n u) =
    one_more
    (λ y j p e. let (z, q, same) = at_mapped xs p in n z j q (tail-eq_of_cons-eq (e ∙ ap way same)))
    (own_ways_further_on f u)

-- nor have two of those that pass a test
pub own_ways_of_those : (t : Routed → Bool) {xs : List Routed} → OwnWays xs → OwnWays (those t xs)
unfolding those
own_ways_of_those t none = none
own_ways_of_those t (one_more {x = x} {xs = xs} n u) = by_test (own_ways_of_those t u) (t x) refl
  where
    by_test : OwnWays (those t xs) → (b : Bool) → t x ≡ b → OwnWays (those t (x ∷ xs))
    by_test v true e = rw (kept t x xs e) (one_more (λ y j p. let s = stands_in_the_list t xs p in n y s.0 s.1) v)
    by_test v false e = rw (left_out t x xs e) v

-- so a way tells the place
pub way_tells_the_place : {xs : List Routed} {x y : Routed} {i j : ℕ} → OwnWays xs → At x xs i → At y xs j → way x ≡ way y → i ≡ j
way_tells_the_place none p _ e = elim p [ ]
way_tells_the_place (one_more n u) first first e = refl
way_tells_the_place (one_more n u) first (later q) e = absurd (n _ _ q e)
way_tells_the_place (one_more n u) (later p) first e = absurd (n _ _ p (sym e))
way_tells_the_place (one_more n u) (later p) (later q) e = ap suc (way_tells_the_place u p q e)

module _ {ends : ℕ → Bool} where
  different_lines : {fs gs : List ℕ} {r r' l l' i j : ℕ} {t u : Sight} {x y : Routed} → NoneInBoth fs gs → Through ends fs r l t → Through ends gs r' l' u
      → At x (routed t) i → At y (routed u) j → way x ≡ way y → ⊥
  different_lines d t₁ t₂ p q same =
      let b = way_begins_with_the_face t₁ p in
      let c = way_begins_with_the_face t₂ q in
      begin_differently d b c (head-eq_of_cons-eq (sym b.is ∙ same ∙ c.is))

  pub every_row_has_its_own_way : {fs : List ℕ} {r l : ℕ} {t : Sight} → Through ends fs r l t → OwnWays (routed t)
  unfolding routed
  every_row_has_its_own_way (wall e) = one_more (λ y j p e. at_no_place p) none
  every_row_has_its_own_way (crossed {f = f} e t₁) = own_ways_further_on f (every_row_has_its_own_way t₁)
  every_row_has_its_own_way (shared d t₁ t₂) =
      own_ways_of_both (every_row_has_its_own_way t₁) (every_row_has_its_own_way t₂) (λ x y i j p q. different_lines d t₁ t₂ p q)

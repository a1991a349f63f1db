-- Shutting on rows with their routes is pruning of the tree: each run becomes the one row at which the tree is pruned.
use mathlib.Core.Bool.{Bool, true, false}
use mathlib.Core.List.{List, [], ◌∷◌, ◌++◌, map, head-eq_of_cons-eq}
use mathlib.Core.Path.{◌≡◌, refl, sym, ◌∙◌, ap}
use Prim.Native.Nat.{ℕ}
use Rattle.fan.specs.Sight.{Sight}
use Rattle.fan.specs.Sight.Sight.{pass, both}
use Rattle.runs.specs.Route.{via, routed, way}
use Rattle.runs.specs.Door.{is_door, crosses, same_to_door}
use Rattle.runs.specs.Shutting.{joined, pieces, is_run, shut_piece, shut_rows, prune}
use Rattle.runs.proofs.Doors.{different_at_once}
use Rattle.runs.proofs.Pruned.{sight_ends_at_the_door, sight_passes_elsewhere}
use Rattle.runs.proofs.Through.{NoneInBoth, Through, Ends, rows_fill_the_limits, ends_of_a_filling, begin_differently, way_begins_with_the_face}
use Rattle.runs.proofs.Through.Through.{wall, crossed, shared}
use Rattle.runs.proofs.Pieces.{Apart, door_row_of_a_run, shut_rows_further_on, shut_rows_of_both}

module _ (f₀ g₀ : ℕ) where
  -- ways that begin with different faces have different routes up to and including the door
  different_ways : (p q : List ℕ) (c d : ℕ) {e e' : ℕ} {p' q' : List ℕ} → (e ≡ e' → ⊥) → p ++ (c ∷ []) ≡ e ∷ p' → q ++ (d ∷ []) ≡ e' ∷ q'
      → same_to_door f₀ g₀ p q ≡ false
  unfolding same_to_door
  different_ways [] q c d n h k = refl
  different_ways (a ∷ p) [] c d n h k = refl
  different_ways (a ∷ p) (b ∷ q) c d n h k =
      different_at_once f₀ g₀ p q (λ same. n (sym (head-eq_of_cons-eq h) ∙ same ∙ head-eq_of_cons-eq k))

  over_a_passage : (f r l : ℕ) (t : Sight) → Ends r l (routed t) → routed (prune f₀ g₀ t) ≡ shut_rows f₀ g₀ (routed t)
      → routed (prune f₀ g₀ (pass f r l t)) ≡ shut_rows f₀ g₀ (routed (pass f r l t))
  unfolding routed
  over_a_passage f r l t e ih = by_door (is_door f₀ g₀ f) refl
    where
      by_door : (b : Bool) → is_door f₀ g₀ f ≡ b → routed (prune f₀ g₀ (pass f r l t)) ≡ shut_rows f₀ g₀ (map (via f) (routed t))
      by_door true d =
          rw (sight_ends_at_the_door f₀ g₀ f r l t d, e.all, door_row_of_a_run f₀ g₀ f d e.first_row e.others, e.last_left_limit, e.first_right_limit)
      by_door false d =
          rw (sight_passes_elsewhere f₀ g₀ f r l t d, shut_rows_further_on f₀ g₀ f d (routed t)) (ap (map (via f)) ih)

  over_a_split : (t u : Sight) → Apart f₀ g₀ (routed t) (routed u) → routed (prune f₀ g₀ t) ≡ shut_rows f₀ g₀ (routed t)
      → routed (prune f₀ g₀ u) ≡ shut_rows f₀ g₀ (routed u) → routed (prune f₀ g₀ (both t u)) ≡ shut_rows f₀ g₀ (routed (both t u))
  unfolding routed prune
  over_a_split t u apart p q = rw (p, q) (sym (shut_rows_of_both f₀ g₀ (routed t) (routed u) apart))

  module _ {ends : ℕ → Bool} where
    -- what is seen through different lines is apart
    through_different_lines : {fs gs : List ℕ} {r r' l l' : ℕ} {t u : Sight} → NoneInBoth fs gs → Through ends fs r l t → Through ends gs r' l' u
        → Apart f₀ g₀ (routed t) (routed u)
    unfolding way
    through_different_lines none t₁ t₂ x y i j p q =
        let b = way_begins_with_the_face t₁ p in
        let c = way_begins_with_the_face t₂ q in
        different_ways x.route y.route x.row.face y.row.face (begin_differently none b c) b.is c.is

    pub shut_rows_are_the_pruned_rows : {fs : List ℕ} {r l : ℕ} {t : Sight} → Through ends fs r l t → routed (prune f₀ g₀ t) ≡ shut_rows f₀ g₀ (routed t)
    shut_rows_are_the_pruned_rows (wall e) = unfold routed prune shut_rows pieces joined shut_piece is_run crosses in refl
    shut_rows_are_the_pruned_rows (crossed {f = f} {r = r} {l = l} {t = t} e t₁) =
        over_a_passage f r l t (ends_of_a_filling (rows_fill_the_limits t₁)) (shut_rows_are_the_pruned_rows t₁)
    shut_rows_are_the_pruned_rows (shared {t = t} {u = u} none t₁ t₂) =
        over_a_split t u (through_different_lines none t₁ t₂) (shut_rows_are_the_pruned_rows t₁) (shut_rows_are_the_pruned_rows t₂)

-- The listing with the door shut is the listing with it open, pruned.
use mathlib.Core.Bool.{Bool, true, false}
use mathlib.Core.Path.{◌≡◌, refl, sym, ◌∙◌, ap}
use Prim.Native.Nat.{ℕ, zero, suc, ◌<◌}
use lib.ListN.{length}
use Rattle.fan.specs.Sight.{Floor, Sight, Standing, follow, hand_on, lines_around, seen_from, Whole}
use Rattle.fan.specs.Sight.Sight.{row, pass, both, cut}
use Rattle.fan.specs.Sight.Whole.{whole_pass, whole_both}
use Rattle.fan.specs.Once.{At}
use Rattle.fan.proofs.Trees.{follow_a_wall, follow_too_far, follow_across}
use Rattle.runs.specs.Door.{is_door}
use Rattle.runs.specs.Shutting.{prune}
use Rattle.runs.specs.Floors.{ending, Shuts, Faces}
use Rattle.runs.proofs.Pruned.{sight_ends_at_the_door, sight_passes_elsewhere}
use Rattle.runs.proofs.SideBySide.{shutting_stops, listings_side_by_side}

module _ {N f₀ g₀ : ℕ} (F : Floor) {once_shut : ℕ → Bool} (S : Shuts N f₀ g₀ F once_shut) (A : Faces N F) where
  abbrev Pruned : ℕ → Sight → Sight → Type 0
  Pruned n t t' = Whole t → t' ≡ prune f₀ g₀ t

  -- where the door is out of reach, its row is there while it is open too
  at_the_door : (n f r l : ℕ) → is_door f₀ g₀ f ≡ true → Pruned n (follow F n f r l) (row f r l (F.far f))
  unfolding prune
  at_the_door n f r l d w = by_end n w (F.ends f) refl
    where
      by_end : (n : ℕ) → Whole (follow F n f r l) → (b : Bool) → F.ends f ≡ b → row f r l (F.far f) ≡ prune f₀ g₀ (follow F n f r l)
      by_end n w true e = rw (follow_a_wall F n f r l e)
      by_end zero w false e =
          let none : Whole cut = rw (follow_too_far F f r l e) at w in
          elim none [ ]
      by_end (suc n) w false e =
          rw (follow_across F n f r l e, S.passed_in_reach f e) (sym (sight_ends_at_the_door f₀ g₀ f r l (hand_on F n (F.back f) r l) d))

  over_a_passage : (n f r l : ℕ) (t t' : Sight) → is_door f₀ g₀ f ≡ false → Pruned n t t' → Pruned (suc n) (pass f r l t) (pass f r l t')
  over_a_passage n f r l t t' d p (whole_pass w) = ap (pass f r l) (p w) ∙ sym (sight_passes_elsewhere f₀ g₀ f r l t d)

  over_a_split : (n : ℕ) (t t' u u' : Sight) → Pruned n t t' → Pruned n u u' → Pruned n (both t u) (both t' u')
  unfolding prune
  over_a_split n t t' u u' p q (whole_both w v) = rw (p w, q v)

  pub shut_listing_is_pruned :
      (M : ℕ) (p : Standing) → 0 < length (lines_around F p) → ((e i : ℕ) → At e (lines_around F p) i → e < N) → Whole (seen_from F M p) →
      seen_from (ending F once_shut F.far) M p ≡ prune f₀ g₀ (seen_from F M p)
  unfolding prune
  shut_listing_is_pruned M p some faces w =
      listings_side_by_side F (shutting_stops S) A Pruned (λ n f r l k d w. refl) (λ w. refl) at_the_door over_a_passage over_a_split M p some faces w

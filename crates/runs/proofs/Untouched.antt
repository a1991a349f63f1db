-- Rows whose routes neither cross the door nor end on it stand in both lists, unaltered, in the same order (document 01, "Changing a door").
use mathlib.Core.Bool.{Bool, true, false}
use mathlib.Core.List.{List, [], map}
use mathlib.Core.Path.{◌≡◌, refl, sym, ◌∙◌, ap}
use Prim.Native.Nat.{ℕ}
use Rattle.fan.specs.Sight.{Sight}
use Rattle.fan.specs.Sight.Sight.{row, pass, both, cut}
use Rattle.runs.specs.Route.{Routed, via, routed}
use Rattle.runs.specs.Door.{is_door, crosses, on_door, untouched, those}
use Rattle.runs.specs.Shutting.{prune}
use Rattle.runs.proofs.Lists.{none_left, those_of_both, those_of_a_mapped_list}
use Rattle.runs.proofs.Doors.{touched_beyond, untouched_further_on}
use Rattle.runs.proofs.Pruned.{sight_ends_at_the_door, sight_passes_elsewhere}

module _ (f₀ g₀ : ℕ) where
  abbrev touching_nothing : Sight → List Routed
  touching_nothing t = those (untouched f₀ g₀) (routed t)

  touched_on_the_door : (f r l k : ℕ) → is_door f₀ g₀ f ≡ true → touching_nothing (row f r l k) ≡ []
  unfolding routed those untouched crosses on_door
  touched_on_the_door f r l k e = rw (e, those)

  pub untouched_rows_stay : (t : Sight) → those (untouched f₀ g₀) (routed (prune f₀ g₀ t)) ≡ those (untouched f₀ g₀) (routed t)
  unfolding routed prune
  untouched_rows_stay (row f r l k) = refl
  untouched_rows_stay (pass f r l t) = by_door (untouched_rows_stay t) (is_door f₀ g₀ f) refl
    where
      beyond : (s : Sight) → is_door f₀ g₀ f ≡ false → touching_nothing (pass f r l s) ≡ map (via f) (touching_nothing s)
      beyond s e = those_of_a_mapped_list (via f) (untouched f₀ g₀) (untouched f₀ g₀) (untouched_further_on f₀ g₀ f e) (routed s)

      nothing_beyond : is_door f₀ g₀ f ≡ true → touching_nothing (pass f r l t) ≡ []
      nothing_beyond e =
          those_of_a_mapped_list (via f) (untouched f₀ g₀) (λ x. false) (touched_beyond f₀ g₀ f e) (routed t)
          ∙ ap (map (via f)) (none_left (λ x. false) (routed t) (λ x. refl))

      by_door : touching_nothing (prune f₀ g₀ t) ≡ touching_nothing t → (b : Bool) → is_door f₀ g₀ f ≡ b
          → touching_nothing (prune f₀ g₀ (pass f r l t)) ≡ touching_nothing (pass f r l t)
      by_door ih true e =
          rw (sight_ends_at_the_door f₀ g₀ f r l t e)
          (touched_on_the_door f r l 0 e ∙ sym (nothing_beyond e))
      by_door ih false e =
          rw (sight_passes_elsewhere f₀ g₀ f r l t e)
          (beyond (prune f₀ g₀ t) e ∙ ap (map (via f)) ih ∙ sym (beyond t e))
  untouched_rows_stay (both t u) =
      those_of_both _ (routed (prune f₀ g₀ t)) (routed (prune f₀ g₀ u))
      ∙ rw (untouched_rows_stay t, untouched_rows_stay u) (sym (those_of_both _ (routed t) (routed u)))
  untouched_rows_stay cut = refl

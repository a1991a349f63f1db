-- The floor of an accepted plan under any setting and within any range, seen from any point, has the geometry that the laws of sight ask for.
use mathlib.Core.Bool.{Bool, true, false, ◌||◌}
use mathlib.Core.List.{List}
use mathlib.Core.Path.{◌≡◌, refl, sym, ◌∙◌, ap, subst}
use Prim.Native.Nat.{ℕ, ◌+◌, ◌-◌, ◌<◌}
use native.Mathlib.Omega.{arith}
use borrow.Author.Tests.{eq-eqb}
use lib.Dec.{ltb}
use lib.ListN.{length}
use lib.IntN.{ℤ}
use lib.Signed.{◌<ℤ◌, ◌≤ℤ◌, le_z}
use Rattle.exact.proofs.Order.{𝟘, leZ_true, leZ_false}
use Rattle.exact.proofs.Truth.{neither_true}
use Rattle.plane.specs.Side.{Point, side}
use Rattle.plane.specs.Cone.{cross, Between, Opposite}
use Rattle.plane.proofs.Found.{side_from_the_stand, side_positive_is_beyond, opposite_turns}
use Rattle.limits.specs.Limits.{wall}
use Rattle.cells.specs.Least.{least}
use Rattle.cells.specs.Lists.{Cells, corner_at, cell_count, face_count, first, side_count, home, next, start, neighbour, back}
use Rattle.cells.specs.Sound.{Numbered, Sound}
use Rattle.cells.proofs.Least.{not_both}
use Rattle.cells.proofs.Faces.{SideOf, side_exists, side_of_home, home_exists, next_below, next_is_a_side, next_stays_in_the_cell}
use Rattle.cells.proofs.Plans.{convex, back_exists, back_of_back, back_starts_at_the_finish, back_finishes_at_the_start}
use Rattle.cells.proofs.Within.{every_other_side_turns_left}
use Rattle.setting.specs.Setting.{ends, bars}
use Rattle.setting.proofs.Settings.{a_line_is_free_from_both_sides}
use Rattle.reach.proofs.Reaching.{the_line_stood_on_is_in_reach}
use Rattle.stand.specs.declared.locate.Footing.{Footing}
use Rattle.stand.proofs.Located.{InCell, OnSide, Stands, the_cell_goes_around_the_stand, side_ends_are_opposite}
use Rattle.stand.proofs.Located.Stands.{in_a_cell, on_a_side}
use Rattle.fan.specs.Sight.{Floor, Place}
use Rattle.fan.specs.Walk.{Other}
use Rattle.fan.specs.Sight.Place.{between, right_of_r, left_of_l}
use Rattle.fan.proofs.Around as Around
use Rattle.fan.proofs.Around.Stands.{stands_inside, stands_within}
use Rattle.fan.proofs.Geometry.{Geometry, other_is_another}
use Rattle.fan.proofs.Start.{Start}
use Rattle.fan.proofs.WithinSide.{WithinSide}
use Rattle.sight.specs.Listing.{placed, seen, unreached, plan_floor, standing}
use Rattle.sight.proofs.Round as Round

-- sight goes on only where the neighbour is no wall
pub free_is_no_wall : (T : Cells) (ds : List ℕ) (w f : ℕ) → ends T ds w f ≡ false → neighbour T f ≡ wall → ⊥
unfolding ends
free_is_no_wall T ds w f e h =
    not_both (subst (λ (b : Bool). (b || ltb (least (bars ds w f (back T f)) (length ds) 0) (length ds)) ≡ true) (sym (eq-eqb _ _ h)) refl) e

-- sight passes a line that is free and in reach
module _ (cs : List ℤ) (T : Cells) (ds : List ℕ) (w R : ℕ) (q : Point) (f : ℕ) where
  pub passed_is_free : (plan_floor cs T ds w R q).ends f ≡ false → ends T ds w f ≡ false
  passed_is_free e = (neither_true (ends T ds w f) (unreached cs T R q f) e).0

  pub passed_is_in_reach : (plan_floor cs T ds w R q).ends f ≡ false → unreached cs T R q f ≡ false
  passed_is_in_reach e = (neither_true (ends T ds w f) (unreached cs T R q f) e).1

  pub free_in_reach_is_passed : ends T ds w f ≡ false → unreached cs T R q f ≡ false → (plan_floor cs T ds w R q).ends f ≡ false
  free_in_reach_is_passed e h = rw (e, h)

module _ (cs : List ℤ) (q : Point) (v r l : ℕ) where
  turned : (a b : ℕ) → side q (corner_at cs a) (corner_at cs b) ≡ cross (seen cs q a) (seen cs q b)
  turned a b = side_from_the_stand q (corner_at cs a) (corner_at cs b)

  -- the place is decided by the two side values
  data Decided : Place → Type 0 where
    on_the_right : cross (seen cs q r) (seen cs q v) ≤ℤ 𝟘 → Decided right_of_r
    on_the_left : cross (seen cs q v) (seen cs q l) ≤ℤ 𝟘 → Decided left_of_l
    in_between : Between (seen cs q r) (seen cs q l) (seen cs q v) → Decided between

  decided : Decided (placed cs q v r l)
  unfolding placed
  decided = by_right (le_z (side q (corner_at cs r) (corner_at cs v)) 𝟘) refl (le_z (side q (corner_at cs v) (corner_at cs l)) 𝟘) refl
    where
      by_right : (a : Bool) → le_z (side q (corner_at cs r) (corner_at cs v)) 𝟘 ≡ a → (b : Bool) → le_z (side q (corner_at cs v) (corner_at cs l)) 𝟘 ≡ b → Decided (elim a [ true ↦ right_of_r | false ↦ elim b [ true ↦ left_of_l | false ↦ between ] ])
      by_right true h b k = on_the_right (subst (λ (z : ℤ). z ≤ℤ 𝟘) (turned r v) (leZ_true _ _ h))
      by_right false h true k = on_the_left (subst (λ (z : ℤ). z ≤ℤ 𝟘) (turned v l) (leZ_true _ _ k))
      by_right false h false k =
          in_between (record {
            past_right = subst (λ (z : ℤ). 𝟘 <ℤ z) (turned r v) (leZ_false _ _ h);
            short_of_left = subst (λ (z : ℤ). 𝟘 <ℤ z) (turned v l) (leZ_false _ _ k);
          })

  placed_between : placed cs q v r l ≡ between → Between (seen cs q r) (seen cs q l) (seen cs q v)
  placed_between e = take (subst Decided e decided)
    where
      take : Decided between → Between (seen cs q r) (seen cs q l) (seen cs q v)
      take (in_between b) = b

  placed_right : placed cs q v r l ≡ right_of_r → cross (seen cs q r) (seen cs q v) ≤ℤ 𝟘
  placed_right e = take (subst Decided e decided)
    where
      take : Decided right_of_r → cross (seen cs q r) (seen cs q v) ≤ℤ 𝟘
      take (on_the_right h) = h

  placed_left : placed cs q v r l ≡ left_of_l → cross (seen cs q v) (seen cs q l) ≤ℤ 𝟘
  placed_left e = take (subst Decided e decided)
    where
      take : Decided left_of_l → cross (seen cs q v) (seen cs q l) ≤ℤ 𝟘
      take (on_the_left h) = h

module _ {cs : List ℤ} {T : Cells} {ds : List ℕ} (sound : Sound cs T ds) (w R : ℕ) (q : Point) where
  no_wall_passed : (f : ℕ) → (plan_floor cs T ds w R q).ends f ≡ false → neighbour T f ≡ wall → ⊥
  no_wall_passed f e = free_is_no_wall T ds w f (passed_is_free cs T ds w R q f e)

  pub plan_geometry : Geometry (plan_floor cs T ds w R q) (face_count T) (cell_count T) (seen cs q) (home T)
  plan_geometry =
      let N = sound.numbered in
      record {
        back_is_a_face = λ f h e. back_exists sound f h (no_wall_passed f e);
        next_is_a_face = λ g h. next_below N g h;
        cell_exists = λ g h. home_exists N g h;
        next_in_the_cell = λ g h. next_stays_in_the_cell N g h;
        next_starts = λ g h. refl;
        three_sides = λ g h. omega (arith, N.at_least (home T g) (home_exists N g h));
        as_many_sides = λ g h. ap (λ (c : ℕ). side_count T c - 2) (next_stays_in_the_cell N g h);
        never_itself = λ g h. Round.never_itself N (plan_floor cs T ds w R q) (λ f. refl) (λ f. refl) g h;
        comes_round = λ g h. Round.comes_round N (plan_floor cs T ds w R q) (λ f. refl) (λ f. refl) g h;
        convex = λ g e h k same a b. side_positive_is_beyond _ _ _ q (convex N sound.cells g e h k same a b);
        back_starts = λ f h e. back_starts_at_the_finish sound f h (no_wall_passed f e);
        back_finishes = λ f h e. back_finishes_at_the_start sound f h (no_wall_passed f e);
        is_between = placed_between cs q;
        is_right = placed_right cs q;
        is_left = placed_left cs q;
      }

  abbrev F : Floor
  F = plan_floor cs T ds w R q

  N : Numbered T
  N = sound.numbered

  -- the sides of a cell follow each other around a stand strictly inside it
  start_in_the_cell : (c : ℕ) → InCell cs T q c → Start F (face_count T) (seen cs q) (first T c)
  start_in_the_cell c stands =
      let h = stands.cell_exists in
      let here : SideOf T c (first T c) = record { not_before = omega arith; not_after = omega (arith, N.at_least c h) } in
      record {
        is_a_face = side_exists N h here;
        turns = λ e i. the_cell_goes_around_the_stand cs T q c stands.strictly_inside e (Round.among_is_a_side N F (λ f. refl) h here i);
      }

  -- the other sides of a cell turn left around a stand strictly within one of them
  others_turn : {c s : ℕ} → c < cell_count T → SideOf T c s → Opposite (seen cs q (start T s)) (seen cs q (start T (next T s))) → (e : ℕ) → Other F s e
      → 𝟘 <ℤ cross (seen cs q (start T e)) (seen cs q (start T (next T e)))
  others_turn {c} {s} h here within e o =
      every_other_side_turns_left N sound.cells q h here within e (Round.among_is_a_side N F (λ f. refl) h (next_is_a_side N h here) o)
      (other_is_another plan_geometry (side_exists N h here) o)

  within_the_side : (c k : ℕ) → OnSide cs T ds w q c k → WithinSide F (face_count T) (seen cs q) (first T c + k)
  within_the_side c k stands =
      record {
        is_a_face = face;
        free = free_in_reach_is_passed cs T ds w R q s stands.free (the_line_stood_on_is_in_reach R _ _ opposite);
        free_beyond =
            free_in_reach_is_passed cs T ds w R q (back T s) (a_line_is_free_from_both_sides sound w s face no_wall ∙ stands.free)
            (the_line_stood_on_is_in_reach R _ _ opposite_beyond);
        back_again = back_of_back sound s face no_wall;
        opposite = opposite;
        turns = others_turn stands.cell_exists here opposite;
        turns_beyond =
            others_turn (home_exists N (back T s) beyond) (side_of_home N (back T s) beyond) opposite_beyond;
      }
    where
      s : ℕ
      s = first T c + k

      here : SideOf T c (first T c + k)
      here = record { not_before = omega arith; not_after = omega (arith, stands.side_exists) }

      face : first T c + k < face_count T
      face = side_exists N stands.cell_exists here

      no_wall : neighbour T (first T c + k) ≡ wall → ⊥
      no_wall = free_is_no_wall T ds w (first T c + k) stands.free

      beyond : back T (first T c + k) < face_count T
      beyond = back_exists sound (first T c + k) face no_wall

      opposite : Opposite (seen cs q (start T (first T c + k))) (seen cs q (start T (next T (first T c + k))))
      opposite = side_ends_are_opposite cs T q (first T c + k) stands.within

      opposite_beyond : Opposite (seen cs q (start T (back T (first T c + k)))) (seen cs q (start T (next T (back T (first T c + k)))))
      opposite_beyond =
          rw (back_starts_at_the_finish sound (first T c + k) face no_wall, back_finishes_at_the_start sound (first T c + k) face no_wall)
          (opposite_turns _ _ opposite)

  -- a stand found on the plan stands so on its floor
  pub stands_on_the_floor : {p : Footing} → Stands cs T ds w q p → Around.Stands F (face_count T) (seen cs q) (standing T p)
  stands_on_the_floor (in_a_cell {c} i) = stands_inside (start_in_the_cell c i)
  stands_on_the_floor (on_a_side {c} {k} i) = stands_within (within_the_side c k i)

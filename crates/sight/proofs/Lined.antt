-- Laws of the code's tables: those of an accepted plan are tables that lines can be followed by, and the floor that they describe is the plan's.
use mathlib.Core.Bool.{Bool, true, false, ◌||◌}
use mathlib.Core.List.{List}
use mathlib.Core.Path.{◌≡◌, refl, sym, ap, ap₂, ◌∙◌, subst}
use Prim.Native.Nat.{ℕ, zero, suc, ◌+◌, ◌*◌, ◌/◌, ◌%◌, ◌<◌, ◌≤◌}
use native.Mathlib.Omega.{arith}
use borrow.Author.Tests.{eq-eqb, ne_eqb}
use lib.Dec.{eqb}
use lib.ListN.{length, get_or}
use lib.IntN.{ℤ, pos}
use lib.Signed.{le_z}
use Rattle.exact.specs.Within.{Within}
use Rattle.exact.proofs.Bounds.{within, minus, itself}
use Rattle.plane.specs.Side.{Point, side, Near}
use Rattle.plane.specs.Cone as Cone
use Rattle.plane.specs.Cone.{cross}
use Rattle.plane.proofs.Found.{side_from_the_stand}
use Rattle.limits.specs.Limits.{wall, most_sides, most_cells}
use Rattle.cells.specs.Lists.{Cells, corner_count, corner_at, face_count, side_count, home, next, start, back}
use Rattle.cells.specs.Sound.{CornersNear, Sound}
use Rattle.cells.proofs.Least.{not_both}
use Rattle.cells.proofs.Faces.{home_exists, next_below}
use Rattle.cells.proofs.Plans.{counts, faces_at_most, corner_exists, back_exists}
use Rattle.setting.specs.Setting.{ends}
use Rattle.setting.proofs.Settings.{sight_ends_at_a_wall}
use Rattle.fan.specs.Sight.{follow}
use Rattle.fan.specs.Sight.Place.{between, right_of_r, left_of_l}
use Rattle.fan.proofs.Agree.{Agree, follow_agrees}
use Rattle.expand.specs.Floor as Floor
use Rattle.reach.specs.Reach.{most_apart, out_of_reach, far}
use Rattle.expand.specs.Floor.{seen_at, floor_of, Lines, Starts}
use Rattle.lines.specs.Lined.{SoundCells, Lined}
use Rattle.lines.proofs.Marks.{across_where_sight_ends, across_where_sight_passes}
use Rattle.sight.specs.Listing.{placed, seen, plan_floor}
use Rattle.sight.specs.Seen.{SeenFrom}
use Rattle.sight.proofs.PlanFloor.{passed_is_free}

-- the cells and doors of an accepted plan
pub sound_cells : {cs : List ℤ} {T : Cells} {ds : List ℕ} → Sound cs T ds → SoundCells T ds
sound_cells {cs} sound = record { corners = cs; sound = sound }

-- ---- corners seen from a stand

module _ {cs : List ℤ} {q : Point} {zs : List ℤ} (near : CornersNear cs) (stand : Near q) (even : length cs % 2 ≡ 0) (S : SeenFrom cs q zs) where
  corner_apart : (i : ℕ) → i < corner_count cs → Within most_apart (seen_at zs i).x × Within most_apart (seen_at zs i).y
  unfolding Cone.minus
  corner_apart i h =
      let c = near.near i h in
      subst (λ (p : Point). Within most_apart p.x × Within most_apart p.y) (sym (S.stands i h)) (within tt (minus (itself c.x_near) (itself stand.x_near)), within tt (minus (itself c.y_near) (itself stand.y_near)))

  pub seen_is_near : Floor.Near zs
  seen_is_near = record { near = λ i h. by_half i h (i % 2) refl }
    where
      by_half : (i : ℕ) → i < length zs → (r : ℕ) → i % 2 ≡ r → Within most_apart (get_or zs i (pos 0))
      by_half i h zero e =
          let is : 2 * (i / 2) ≡ i = omega arith in
          subst (λ (j : ℕ). Within most_apart (get_or zs j (pos 0))) is (corner_apart (i / 2) (omega (arith, S.whole))).0
      by_half i h (suc zero) e =
          let is : 2 * (i / 2) + 1 ≡ i = omega arith in
          subst (λ (j : ℕ). Within most_apart (get_or zs j (pos 0))) is (corner_apart (i / 2) (omega (arith, S.whole))).1
      by_half i h (suc (suc r)) e = absurd (omega arith)

  -- where a corner lies is the same, seen from the stand or by side values
  pub placed_alike : (v r l : ℕ) → v < corner_count cs → r < corner_count cs → l < corner_count cs → Floor.placed zs v r l ≡ placed cs q v r l
  unfolding placed Floor.placed
  placed_alike v r l h i j = ap₂ (λ (a b : ℤ). elim (le_z a (pos 0)) [ true ↦ right_of_r | false ↦ elim (le_z b (pos 0)) [ true ↦ left_of_l | false ↦ between ] ]) (turned r v i h) (turned v l h j)
    where
      turned : (a b : ℕ) → a < corner_count cs → b < corner_count cs → cross (seen_at zs a) (seen_at zs b) ≡ side q (corner_at cs a) (corner_at cs b)
      turned a b m n = ap₂ cross (S.stands a m) (S.stands b n) ∙ sym (side_from_the_stand q (corner_at cs a) (corner_at cs b))

-- ---- the table of an accepted plan

module _ {cs : List ℤ} {T : Cells} {ds ls : List ℕ} {q : Point} {zs : List ℤ} (w R : ℕ) (sound : Sound cs T ds) (stand : Near q) (lined : Lined T ds w ls) (S : SeenFrom cs q zs) where
  pub few_faces : face_count T ≤ most_sides * most_cells
  few_faces = omega (arith, faces_at_most sound.numbered, (counts _ _ _ sound.in_size).cells_at_most)

  -- where sight passes, what is across is a face
  back_below : (f : ℕ) → f < face_count T → ends T ds w f ≡ false → back T f < face_count T
  back_below f h e = back_exists sound f h (λ k. not_both (sight_ends_at_a_wall T ds w f k) e)

  pub across_where_passed : (f : ℕ) → f < face_count T → ends T ds w f ≡ false → get_or ls (4 * f + 1) 0 ≡ back T f
  across_where_passed f h e = lined.across_stands f h ∙ across_where_sight_passes T ds w f e

  across_where_ended : (f : ℕ) → f < face_count T → ends T ds w f ≡ true → get_or ls (4 * f + 1) 0 ≡ wall
  across_where_ended f h e = lined.across_stands f h ∙ across_where_sight_ends T ds w f e

  start_exists : (f : ℕ) → f < face_count T → start T f < corner_count cs
  start_exists = corner_exists sound.numbered sound.cells

  next_exists : (f : ℕ) → f < face_count T → next T f < face_count T
  next_exists = next_below sound.numbered

  few_sides : (f : ℕ) → f < face_count T → side_count T (home T f) ≤ most_sides
  few_sides f h = omega (arith, sound.numbered.at_most (home T f) (home_exists sound.numbered f h))

  pub lined_is_lines : Lines zs ls
  lined_is_lines =
      record {
        few_faces = omega (arith, lined.whole, few_faces);
        corners = seen_is_near sound.corners stand sound.whole_corners S;
        end_exists = λ f h. end_exists f (omega (arith, lined.whole));
        across_exists = λ f h no_wall. across_exists f (omega (arith, lined.whole)) no_wall (ends T ds w f) refl;
        few_more = λ f h. few_more f (omega (arith, lined.whole));
        next_exists = λ f h. next_stands f (omega (arith, lined.whole));
      }
    where
      end_exists : (f : ℕ) → f < face_count T → get_or ls (4 * f) 0 < length zs / 2
      end_exists f h = rw (lined.end_stands f h) (omega (arith, start_exists (next T f) (next_exists f h), S.whole))

      across_exists : (f : ℕ) → f < face_count T → (get_or ls (4 * f + 1) 0 ≡ wall → ⊥) → (b : Bool) → ends T ds w f ≡ b → 4 * get_or ls (4 * f + 1) 0 + 3 < length ls
      across_exists f h no_wall true e = absurd (no_wall (across_where_ended f h e))
      across_exists f h no_wall false e = omega (arith, across_where_passed f h e, back_below f h e, lined.whole)

      few_more : (f : ℕ) → f < face_count T → get_or ls (4 * f + 2) 0 < most_sides
      few_more f h = omega (arith, lined.more_stands f h, few_sides f h)

      next_stands : (f : ℕ) → f < face_count T → 4 * get_or ls (4 * f + 3) 0 + 3 < length ls
      next_stands f h = omega (arith, lined.next_stands f h, next_exists f h, lined.whole)

  pub starts_stand : Starts zs ls T.faces
  unfolding start
  starts_stand =
      record {
        stands = λ f h. omega (arith, lined.whole, sound.numbered.whole_faces);
        exists = λ f h. omega (arith, start_exists f (omega (arith, lined.whole)), S.whole);
      }

  agree : Agree (floor_of zs ls T.faces R) (plan_floor cs T ds w R q) (face_count T) (corner_count cs)
  unfolding start
  agree =
      record {
        ends_agree = λ f h. ap₂ ◌||◌ (by_end f h (ends T ds w f) refl) (as_far f h out_of_reach);
        far_agrees = λ f h. as_far f h far;
        back_agrees = λ f h e. across_where_passed f h (passed_is_free cs T ds w R q f e);
        back_below = λ f h e. back_below f h (passed_is_free cs T ds w R q f e);
        next_agrees = lined.next_stands;
        next_below = next_exists;
        more_agrees = lined.more_stands;
        end_agrees = lined.end_stands;
        end_below = λ f h. start_exists (next T f) (next_exists f h);
        place_agrees = placed_alike sound.corners stand sound.whole_corners S;
      }
    where
      -- a line's two ends are seen alike
      as_far : {A : Type 0} (f : ℕ) → f < face_count T → (t : ℕ → Point → Point → A) →
          t R (seen_at zs (get_or T.faces (2 * f) 0)) (seen_at zs (get_or ls (4 * f) 0)) ≡ t R (seen cs q (start T f)) (seen cs q (start T (next T f)))
      as_far f h t =
          ap₂ (t R) (S.stands (start T f) (start_exists f h))
          (ap (seen_at zs) (lined.end_stands f h) ∙ S.stands (start T (next T f)) (start_exists (next T f) (next_exists f h)))

      by_end : (f : ℕ) → f < face_count T → (b : Bool) → ends T ds w f ≡ b → eqb (get_or ls (4 * f + 1) 0) wall ≡ ends T ds w f
      by_end f h true e = eq-eqb _ _ (across_where_ended f h e) ∙ sym e
      by_end f h false e = ne_eqb (get_or ls (4 * f + 1) 0) wall (λ k. omega (arith, across_where_passed f h e, back_below f h e, few_faces)) ∙ sym e

  pub lined_floor_agrees : (n f r l : ℕ) → f < face_count T → r < corner_count cs → l < corner_count cs → follow (floor_of zs ls T.faces R) n f r l ≡ follow (plan_floor cs T ds w R q) n f r l
  lined_floor_agrees = follow_agrees agree

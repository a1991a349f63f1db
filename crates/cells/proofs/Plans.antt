-- Laws of an accepted plan: what everything above uses instead of the check's text.
use mathlib.Core.Bool.{true, false, not}
use mathlib.Core.List.{List}
use mathlib.Core.Path.{◌≡◌, ap, sym, ◌∙◌, subst}
use Prim.Native.Nat.{ℕ, zero, suc, ◌*◌, ◌<◌, ◌≤◌}
use native.Mathlib.Decide.{ℕ_discrete}
use native.Mathlib.Omega.{arith}
use borrow.Author.Tests.{eqb-true, ltb-true, leb-true, eq-eqb, not-true, not-false}
use lib.Dec.{eqb, leb}
use lib.ListN.{length, get_or}
use lib.IntN.{ℤ}
use lib.Signed.{◌<ℤ◌}
use Rattle.exact.proofs.Order.{𝟘}
use Rattle.exact.proofs.Truth.{both_true, neither_true}
use Rattle.plane.specs.Side.{Point, side}
use Rattle.plane.proofs.Found.{side_turns_with_its_corners, no_area_both_ways}
use Rattle.limits.specs.Limits.{least_corners, most_corners, least_cells, most_cells, most_doors, most_sides, sized, wall}
use Rattle.cells.specs.Least.{least}
use Rattle.cells.specs.Lists.{Cells, corner_count, corner_at, cell_count, face_count, first, home, next, start, neighbour, back}
use Rattle.cells.specs.Meeting.{Answered, MeetOnce}
use Rattle.cells.specs.Check.{some_face, missing_corner, wrong_for_side, wrong_side, wrong_cell, names, wrong_door}
use Rattle.cells.specs.Sound.{Numbered, CellsRight, CornersExist, Sound}
use Rattle.cells.proofs.Least.{not_both, none_holds}
use Rattle.cells.proofs.Faces.{SideOf, side_exists, home_exists, side_of_home, next_below, next_stays_in_the_cell, next_of_next_differs, no_face}
use Rattle.cells.proofs.Neighbours.{right_and_free, Answer, answered, back_is_at_home}
use Rattle.cells.proofs.Cells.{at, not_missing, starts_elsewhere, lies_left}
use Rattle.cells.proofs.Doors.{names_the_face, names_the_back}

-- ---- counts

pub record Counts (n m k : ℕ) : Type 0 where
  pub corners_at_most : n ≤ most_corners
  pub cells_at_least : least_cells ≤ m
  pub cells_at_most : m ≤ most_cells
  pub doors_at_most : k ≤ most_doors

pub counts : (n m k : ℕ) → sized n m k ≡ true → Counts n m k
unfolding sized
counts n m k e =
    let t₁ = both_true _ _ e in
    let t₂ = both_true _ _ t₁.0 in
    let t₃ = both_true _ _ t₂.0 in
    let t₄ = both_true (leb least_corners n) _ t₃.0 in
    record {
      corners_at_most = leb-true _ _ t₄.1;
      cells_at_least = leb-true _ _ t₃.1;
      cells_at_most = leb-true _ _ t₂.1;
      doors_at_most = leb-true _ _ t₁.1;
    }

-- no cell has more than eight sides
pub faces_at_most : {T : Cells} → Numbered T → face_count T ≤ most_sides * cell_count T
faces_at_most {T} N = omega (arith, N.ends, up_to (cell_count T) (omega arith))
  where
    up_to : (c : ℕ) → c ≤ cell_count T → first T c ≤ most_sides * c
    up_to zero h = omega (arith, N.begins)
    up_to (suc c) h = omega (arith, N.at_most c h, up_to c (omega arith))

-- ---- cells

-- cells that are right
module _ {cs : List ℤ} {T : Cells} (N : Numbered T) (right : CellsRight cs T) where
  both_right : (c : ℕ) → c < cell_count T → (some_face T c (missing_corner cs T) ≡ false) × (some_face T c (wrong_side cs T c) ≡ false)
  unfolding wrong_cell
  both_right c h = neither_true _ _ (right.right c h)

  -- corner numbers exist
  pub corner_exists : (f : ℕ) → f < face_count T → start T f < corner_count cs
  corner_exists f h =
      let here = home_exists N f h in
      not_missing cs T f (no_face N here _ (both_right (home T f) here).0 (side_of_home N f h))

  pub corners_exist : CornersExist cs T
  corners_exist = record { exists = corner_exists }

  -- two faces of one cell
  module _ (f g : ℕ) (h : f < face_count T) (k : g < face_count T) (same : home T f ≡ home T g) where
    right_for_side : wrong_for_side cs T f g ≡ false
    unfolding wrong_side
    right_for_side =
        let here = home_exists N f h in
        no_face N here _ (no_face N here (wrong_side cs T (home T f)) (both_right (home T f) here).1 (side_of_home N f h)) (subst (λ (c : ℕ). SideOf T c g) (sym same) (side_of_home N g k))

    -- every corner but a side's own two is strictly left of it
    pub convex : (g ≡ f → ⊥) → (g ≡ next T f → ⊥) → 𝟘 <ℤ side (at cs T f) (at cs T (next T f)) (at cs T g)
    convex other beyond = lies_left cs T f g right_for_side other beyond

    -- two that start at the same corner are the same face
    pub start_tells_the_face : start T f ≡ start T g → f ≡ g
    start_tells_the_face e = by_place (ℕ_discrete g f)
      where
        by_place : Dec (g ≡ f) → f ≡ g
        by_place (yes l) = sym l
        by_place (no l) = absurd (starts_elsewhere cs T f g right_for_side l (sym e))

  -- ---- two cells meet at most once

  -- a corner of both cells that is no end of f would lie strictly left of f and of its other side
  no_two_sides : (f g : ℕ) → f < face_count T → g < face_count T → home T f ≡ home T g → neighbour T f < cell_count T → neighbour T f ≡ neighbour T g → Answered T f → Answered T g → (g ≡ f → ⊥) → (g ≡ next T f → ⊥) → ⊥
  no_two_sides f g h k same exists e a b other beyond =
      no_area_both_ways (at cs T f) (at cs T (next T f)) (at cs T g) (convex f g h k same other beyond)
      (turned _ _ _ (along F.its_start F.its_finish G.its_finish (convex (back T f) (next T (back T g)) F_exists (next_below N _ G_exists) at_home
      (λ l. beyond (sym (start_tells_the_face (next T f) g (next_below N f h) k (next_stays_in_the_cell N f h ∙ same) (sym F.its_start ∙ ap (start T) (sym l) ∙ G.its_finish))))
      (λ l. other (sym (start_tells_the_face f g h k same (sym F.its_finish ∙ ap (start T) (sym l) ∙ G.its_finish)))))))
    where
      also : neighbour T g < cell_count T
      also = subst (λ (d : ℕ). d < cell_count T) e exists

      F : Answer T f
      F = answered N f exists a

      G : Answer T g
      G = answered N g also b

      F_exists : back T f < face_count T
      F_exists = side_exists N exists F.in_the_neighbour

      G_exists : back T g < face_count T
      G_exists = side_exists N also G.in_the_neighbour

      at_home : home T (back T f) ≡ home T (next T (back T g))
      at_home = back_is_at_home N f exists a ∙ e ∙ sym (back_is_at_home N g also b) ∙ sym (next_stays_in_the_cell N (back T g) G_exists)

      along : {i j k i' j' k' : ℕ} → i ≡ i' → j ≡ j' → k ≡ k' → 𝟘 <ℤ side (corner_at cs i) (corner_at cs j) (corner_at cs k) → 𝟘 <ℤ side (corner_at cs i') (corner_at cs j') (corner_at cs k')
      along e n m a = rw (← e, ← n, ← m) a

      turned : (p q r : Point) → 𝟘 <ℤ side q p r → 𝟘 <ℤ side r q p
      turned p q r l = subst (λ (z : ℤ). 𝟘 <ℤ z) (side_turns_with_its_corners q p r ∙ side_turns_with_its_corners p r q) l

  pub meet_once : MeetOnce T
  meet_once = record { once = λ f g h k same exists e a b. by_place f g h k same exists e a b (ℕ_discrete g f) (ℕ_discrete g (next T f)) }
    where
      by_place : (f g : ℕ) → f < face_count T → g < face_count T → home T f ≡ home T g → neighbour T f < cell_count T → neighbour T f ≡ neighbour T g → Answered T f → Answered T g → Dec (g ≡ f) → Dec (g ≡ next T f) → f ≡ g
      by_place f g h k same exists e a b (yes l) m = sym l
      by_place f g h k same exists e a b (no l) (no m) = absurd (no_two_sides f g h k same exists e a b l m)
      by_place f g h k same exists e a b (no l) (yes m) =
          absurd (no_two_sides g f k h (sym same) (subst (λ (d : ℕ). d < cell_count T) e exists) (sym e) b a (λ n. l (sym n))
          (λ n. next_of_next_differs N (home_exists N f h) (side_of_home N f h) (ap (next T) (sym m) ∙ sym n)))

module _ {cs : List ℤ} {T : Cells} {ds : List ℕ} (sound : Sound cs T ds) where
  -- ---- the face on the other side of a free face

  module _ (f : ℕ) (h : f < face_count T) (free : neighbour T f ≡ wall → ⊥) where
    found : (neighbour T f < cell_count T) × Answered T f
    found = right_and_free T f (sound.neighbours.right f h) free

    its_answer : Answer T f
    its_answer = answered sound.numbered f found.0 found.1

    -- it is a face of the neighbour
    pub back_is_in_the_neighbour : home T (back T f) ≡ neighbour T f
    back_is_in_the_neighbour = back_is_at_home sound.numbered f found.0 found.1

    pub back_exists : back T f < face_count T
    back_exists = side_exists sound.numbered found.0 its_answer.in_the_neighbour

    -- with the same two ends reversed
    pub back_starts_at_the_finish : start T (back T f) ≡ start T (next T f)
    back_starts_at_the_finish = its_answer.its_start

    pub back_finishes_at_the_start : start T (next T (back T f)) ≡ start T f
    back_finishes_at_the_start = its_answer.its_finish

    -- whose own neighbour is the first cell
    pub back_names_the_cell : neighbour T (back T f) ≡ home T f
    back_names_the_cell = its_answer.its_neighbour

    pub back_is_free : neighbour T (back T f) ≡ wall → ⊥
    back_is_free e =
        omega (arith, (counts _ _ _ sound.in_size).cells_at_most, home_exists sound.numbered f h, back_names_the_cell)

    -- no other face of the neighbour starts there
    pub only_one_back : (g : ℕ) → g < face_count T → home T g ≡ neighbour T f → start T g ≡ start T (next T f) → g ≡ back T f
    only_one_back g k same e =
        start_tells_the_face sound.numbered sound.cells g (back T f) k back_exists (same ∙ sym back_is_in_the_neighbour) (e ∙ sym back_starts_at_the_finish)

  -- back of back is the face itself
  pub back_of_back : (f : ℕ) → f < face_count T → (neighbour T f ≡ wall → ⊥) → back T (back T f) ≡ f
  back_of_back f h free =
      sym (only_one_back (back T f) (back_exists f h free) (back_is_free f h free) f h
      (sym (back_names_the_cell f h free)) (sym (back_finishes_at_the_start f h free)))

  -- ---- doors

  module _ (i : ℕ) (h : i < length ds) where
    record DoorRight : Type 0 where
      exists : get_or ds i 0 < face_count T
      no_wall : not (eqb (neighbour T (get_or ds i 0)) wall) ≡ true
      first : least (names ds (get_or ds i 0) (back T (get_or ds i 0))) i 0 ≡ i

    door_right : DoorRight
    unfolding wrong_door
    door_right =
        let t₁ = both_true _ _ (not-false _ (sound.doors i h)) in
        let t₂ = both_true _ _ t₁.0 in
        record { exists = ltb-true _ _ t₂.0; no_wall = t₂.1; first = eqb-true _ _ t₁.1 }

    -- a door is a face that exists
    pub door_exists : get_or ds i 0 < face_count T
    door_exists = door_right.exists

    -- and is free
    pub door_is_free : neighbour T (get_or ds i 0) ≡ wall → ⊥
    door_is_free e = not_both (eq-eqb _ _ e) (not-true _ door_right.no_wall)

    -- no earlier door names its line, from either face
    pub no_earlier_door_names_its_line : (e : ℕ) → e < i → (get_or ds e 0 ≡ get_or ds i 0 → ⊥) × (get_or ds e 0 ≡ back T (get_or ds i 0) → ⊥)
    unfolding names
    no_earlier_door_names_its_line e l =
        let neither = none_holds (names ds (get_or ds i 0) (back T (get_or ds i 0))) i (omega (arith, door_right.first)) e l in
        (λ k. not_both (names_the_face ds (get_or ds i 0) (back T (get_or ds i 0)) e k) neither, λ k. not_both (names_the_back ds (get_or ds i 0) (back T (get_or ds i 0)) e k) neither)

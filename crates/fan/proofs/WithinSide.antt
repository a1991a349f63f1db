-- The stand strictly within a free side (document 02, A4): each other side of its two cells turns left around it. A direction that meets no corner enters one
-- of the two cells, and leaves it by one of its other sides.
use mathlib.Core.Bool.{false}
use mathlib.Core.List.{List, ◌∷◌, ◌++◌}
use mathlib.Core.Logic.{◌⊎◌, inl, inr}
use mathlib.Core.Path.{◌≡◌, refl, sym, ◌∙◌, ap, subst}
use Prim.Native.Nat.{ℕ, zero, suc, ◌-◌, ◌≤◌, ◌<◌}
use native.Mathlib.Decide.{ℕ_discrete, dec_lt}
use native.Mathlib.Omega.{arith}
use lib.Signed.{◌<ℤ◌, ◌≤ℤ◌, clash_ℤ}
use Rattle.exact.proofs.Order.{𝟘, less_or_not, less_is_at_most, at_most_both_ways}
use Rattle.plane.specs.Side.{Point}
use Rattle.plane.specs.Cone.{cross, Between, Meets, Direction, Opposite}
use Rattle.plane.proofs.Found.{turns_nowhere, opposite_turns, opposite_has_length, not_left_of_both_ends, left_of_one_end_is_right_of_the_other, right_of_one_end_is_left_of_the_other, along_one_end_is_along_the_other, away_from_one_end_is_towards_the_other, beyond_a_line_is_left_of_its_left_end, spanned_is_not_right, spanned_from_the_left_is_left, spanned_to_the_left_is_left, left_of_the_other_end_is_right, a_ray_along_a_line_has_one_side_left}
use Rattle.plane.proofs.Cones.{Passes, cone_is_never_empty}
use Rattle.plane.proofs.Cones.Passes.{left, right, away}
use Rattle.fan.specs.Sight.{Floor, Place, fan, follow, hand_on, sides, other_sides, lines_seen}
use Rattle.fan.specs.Sight.Place.{between, right_of_r, left_of_l}
use Rattle.fan.specs.Sight.Sight.{both}
use Rattle.fan.specs.Once.{NeverTwice}
use Rattle.fan.specs.Walk.{Other, Leaves, Enters}
use Rattle.fan.specs.Walk.Among.{this, after}
use Rattle.fan.proofs.Exit.{LeavesFromRight, Before, leaves?, later_exit_is_of_another_cell, handed_is_later}
use Rattle.fan.proofs.Fuel.{Enough, fuel_behind_a_line}
use Rattle.fan.proofs.HandOn.{UpTo, all_others, one_side_on}
use Rattle.fan.proofs.Trees.{fan_last, fan_both, hand_on_is_a_fan}
use Rattle.fan.proofs.TwoParts.{in_front_of_sides}
use Rattle.fan.proofs.Twice.{AllDifferent, WayDown, no_line_of_sight_enters_a_cell_left_before}
use Rattle.fan.proofs.Geometry.{Geometry, around, left_end_exists, other_is_a_face, other_in_the_cell, other_is_another, next_of_next_is_another, convex_at_the_left}
use Rattle.fan.proofs.Places.{never_twice_joined}
use Rattle.fan.proofs.Start.{Run, side_in_sight, sides_apart, at_is_among, others_end_where_it_starts, some_among?, on_to_the_next, carried_to_the_last, passes_a_corner, stays_on_the_right}

-- the stand lies strictly within side s, which is free from both sides
pub record WithinSide (F : Floor) (N : ℕ) (see : ℕ → Point) (s : ℕ) : Type 0 where
  pub is_a_face : s < N
  pub free : F.ends s ≡ false
  pub free_beyond : F.ends (F.back s) ≡ false
  pub back_again : F.back (F.back s) ≡ s
  pub opposite : Opposite (see (F.right_end s)) (see (F.left_end s))
  -- each other side of the two cells turns left around the stand
  pub turns : (e : ℕ) → Other F s e → 𝟘 <ℤ cross (see (F.right_end e)) (see (F.left_end e))
  pub turns_beyond : (e : ℕ) → Other F (F.back s) e → 𝟘 <ℤ cross (see (F.right_end e)) (see (F.left_end e))

module _ {F : Floor} {N M : ℕ} {see : ℕ → Point} {cell : ℕ → ℕ} (G : Geometry F N M see cell) where
  -- within the neighbour's side too
  pub from_beyond : {s : ℕ} → WithinSide F N see s → WithinSide F N see (F.back s)
  from_beyond {s} S =
      let h = S.is_a_face in
      record {
        is_a_face = G.back_is_a_face s h S.free;
        free = S.free_beyond;
        free_beyond = subst (λ (x : ℕ). F.ends x ≡ false) (sym S.back_again) S.free;
        back_again = ap F.back S.back_again;
        opposite = rw (G.back_starts s h S.free, G.back_finishes s h S.free) (opposite_turns _ _ S.opposite);
        turns = S.turns_beyond;
        turns_beyond = λ e o. S.turns e (subst (λ (x : ℕ). Other F x e) S.back_again o);
      }

  -- ---- one of the two cells

  module _ {s : ℕ} (S : WithinSide F N see s) where
    pub others_run : Run G (F.more s) (F.next s)
    others_run =
        record {
          is_a_face = G.next_is_a_face s S.is_a_face;
          turns = S.turns;
          not_round = omega (arith, G.as_many_sides s S.is_a_face);
        }

    other_is : {e : ℕ} → Other F s e → e < N
    other_is o = other_is_a_face G S.is_a_face o

    module _ {e : ℕ} (o : Other F s e) where
      same : cell s ≡ cell e
      same = sym (other_in_the_cell G S.is_a_face o)

      another : e ≡ s → ⊥
      another = other_is_another G S.is_a_face o

      -- both its ends are on the line or left of it, and not both on it
      starts_left : (e ≡ F.next s → ⊥) → 𝟘 <ℤ cross (see (F.left_end s)) (see (F.right_end e))
      starts_left n = beyond_a_line_is_left_of_its_left_end _ _ _ S.opposite (G.convex s e S.is_a_face (other_is o) same another n)

      finishes_left : (F.next e ≡ s → ⊥) → 𝟘 <ℤ cross (see (F.left_end s)) (see (F.left_end e))
      finishes_left n = beyond_a_line_is_left_of_its_left_end _ _ _ S.opposite (convex_at_the_left G s e S.is_a_face (other_is o) same another n)

      starts_not_right : 𝟘 ≤ℤ cross (see (F.left_end s)) (see (F.right_end e))
      starts_not_right = by_test (ℕ_discrete e (F.next s))
        where
          by_test : Dec (e ≡ F.next s) → 𝟘 ≤ℤ cross (see (F.left_end s)) (see (F.right_end e))
          by_test (yes p) = rw (ap F.right_end p ∙ G.next_starts s S.is_a_face, turns_nowhere) (record { le = tt })
          by_test (no p) = less_is_at_most (starts_left p)

      finishes_not_right : 𝟘 ≤ℤ cross (see (F.left_end s)) (see (F.left_end e))
      finishes_not_right = by_test (ℕ_discrete (F.next e) s)
        where
          by_test : Dec (F.next e ≡ s) → 𝟘 ≤ℤ cross (see (F.left_end s)) (see (F.left_end e))
          by_test (yes p) = rw (sym (G.next_starts e (other_is o)) ∙ ap F.right_end p, (opposite_turns _ _ S.opposite).along) (record { le = tt })
          by_test (no p) = less_is_at_most (finishes_left p)

      next_finishes_left : e ≡ F.next s → 𝟘 <ℤ cross (see (F.left_end s)) (see (F.left_end e))
      next_finishes_left p = finishes_left (λ q. next_of_next_is_another G S.is_a_face (sym (ap F.next p) ∙ q))

      module _ {d : Point} where
        -- what leaves by it enters its cell
        pub leaving_enters : Leaves F see d e → Enters F see d s
        leaving_enters x = by_test (ℕ_discrete e (F.next s))
          where
            by_test : Dec (e ≡ F.next s) → Enters F see d s
            by_test (yes p) = spanned_to_the_left_is_left _ _ _ _ starts_not_right (next_finishes_left p) (S.turns e o) x
            by_test (no p) = spanned_from_the_left_is_left _ _ _ _ (starts_left p) finishes_not_right (S.turns e o) (less_is_at_most x.right) x.left

        -- even where its right end counts
        leaving_is_not_right : LeavesFromRight F see d e → 𝟘 ≤ℤ cross (see (F.left_end s)) d
        leaving_is_not_right x = spanned_is_not_right _ _ _ _ starts_not_right finishes_not_right (S.turns e o) x.right x.left

        enters_or_along : LeavesFromRight F see d e → (Enters F see d s) ⊎ (𝟘 <ℤ cross (see (F.left_end s)) (see (F.left_end e)))
        enters_or_along x = by_test (ℕ_discrete e (F.next s))
          where
            by_test : Dec (e ≡ F.next s) → (Enters F see d s) ⊎ (𝟘 <ℤ cross (see (F.left_end s)) (see (F.left_end e)))
            by_test (yes p) = inr (next_finishes_left p)
            by_test (no p) = inl (spanned_from_the_left_is_left _ _ _ _ (starts_left p) finishes_not_right (S.turns e o) x.right x.left)

      -- every direction that leaves by it has left the neighbour before, by the line stood on
      left_the_neighbour : (d : Point) → Leaves F see d e → Leaves F see d (F.back s) × Before F see d (F.back s) e
      left_the_neighbour d x =
          let h = S.is_a_face in
          let k = G.back_is_a_face s h S.free in
          let enters = leaving_enters x in (
            rw (G.back_starts s h S.free, G.back_finishes s h S.free) (record { right = enters; left = left_of_one_end_is_right_of_the_other _ _ d S.opposite enters }),
            handed_is_later G k S.free_beyond (subst (λ (g : ℕ). Other F g e) (sym S.back_again) o) d x,
          )

      -- so neither of the two cells is left later
      pub fuel_within : Enough G (M - 2) e (F.right_end e) (F.left_end e)
      fuel_within = fuel_behind_a_line G (other_is o) (G.back_is_a_face s S.is_a_face S.free) left_the_neighbour

      -- and no line of sight enters the neighbour
      pub the_neighbour_is_never_entered :
          (n x : ℕ) (p : List ℕ) → WayDown (follow F n e (F.right_end e) (F.left_end e)) x p → AllDifferent cell (F.back s ∷ x ∷ p)
      the_neighbour_is_never_entered n x p w =
          no_line_of_sight_enters_a_cell_left_before G n e _ _ _ (side_in_sight G others_run o) (G.back_is_a_face s S.is_a_face S.free) left_the_neighbour x p w

    -- ---- as a fan (document 02, A14: from a stand on a side, as on entry)

    -- a side from e on that is not the last before s ends strictly between its start and the line's right end
    ends_between : {m e : ℕ} → UpTo G s (suc m) e → Between (see (F.right_end e)) (see (F.right_end s)) (see (F.left_end e))
    ends_between {m} {e} u =
        let o = u.others e this in
        let not_last : F.next e ≡ s → ⊥ = λ p. other_is_another G S.is_a_face (u.others _ (after this)) p in
        record { past_right = S.turns e o; short_of_left = left_of_one_end_is_right_of_the_other _ _ _ S.opposite (finishes_left o not_last) }

    -- between the line's two ends each of them takes its own
    fan_of_own_ends : (n m e : ℕ) → UpTo G s m e → fan F (follow F n) m e (F.right_end e) (F.right_end s) ≡ lines_seen F n (sides F.next m e)
    unfolding sides lines_seen around
    fan_of_own_ends n zero e u =
        fan_last F (follow F n) e _ _ ∙ ap (follow F n e (F.right_end e)) (sym (sym (G.next_starts e u.is_a_face) ∙ ap F.right_end u.then_g))
    fan_of_own_ends n (suc m) e u = by_place (fan_of_own_ends n m (F.next e) (one_side_on G u)) (F.place (F.left_end e) (F.right_end e) (F.right_end s)) refl
      where
        b : Between (see (F.right_end e)) (see (F.right_end s)) (see (F.left_end e))
        b = ends_between u

        by_place :
            fan F (follow F n) m (F.next e) (F.right_end (F.next e)) (F.right_end s) ≡ lines_seen F n (sides F.next m (F.next e)) →
            (p : Place) → F.place (F.left_end e) (F.right_end e) (F.right_end s) ≡ p →
            fan F (follow F n) (suc m) e (F.right_end e) (F.right_end s) ≡ lines_seen F n (e ∷ sides F.next m (F.next e))
        by_place rest between p =
            fan_both F (follow F n) m e _ _ p
            ∙ ap (both (follow F n e (F.right_end e) (F.left_end e))) (ap (λ (r : ℕ). fan F (follow F n) m (F.next e) r (F.right_end s)) (sym (G.next_starts e u.is_a_face)) ∙ rest)
            ∙ sym (in_front_of_sides F n m (F.next e) e)
        by_place rest right_of_r p = absurd (clash_ℤ b.past_right (G.is_right _ _ _ p))
        by_place rest left_of_l p = absurd (clash_ℤ b.short_of_left (G.is_left _ _ _ p))

    -- the other sides, each with its own two ends, are what the cell hands on between the two ends of the line
    pub own_ends_are_a_fan : (n : ℕ) → hand_on F n s (F.left_end s) (F.right_end s) ≡ lines_seen F n (other_sides F s)
    own_ends_are_a_fan n =
        hand_on_is_a_fan F n s _ _
        ∙ ap (λ (r : ℕ). fan F (follow F n) (F.more s) (F.next s) r (F.right_end s)) (sym (G.next_starts s S.is_a_face))
        ∙ fan_of_own_ends n (F.more s) (F.next s) (all_others G S.is_a_face)

    -- the line is one of two cells
    pub two_cells : 2 ≤ M
    two_cells =
        let o : Other F s (F.next s) = this in
        let (d, x) = cone_is_never_empty _ _ _ _ (side_in_sight G others_run o).seen in
        let b = left_the_neighbour o d x in
        let k = G.back_is_a_face s S.is_a_face S.free in
        by_test (dec_lt M 2) (G.cell_exists _ k) (G.cell_exists _ (other_is o)) (later_exit_is_of_another_cell G d _ _ k (other_is o) b.0 x b.1)
      where
        by_test : {a b : ℕ} → Dec (M < 2) → a < M → b < M → (a ≡ b → ⊥) → 2 ≤ M
        by_test (yes few) h k apart = absurd (apart (omega arith))
        by_test (no many) h k apart = omega arith

    -- ---- a direction that meets no corner and enters the cell

    module _ (n : ℕ) (corners : (e : ℕ) → e < N → F.right_end e < n) (d : Point) (is_direction : Direction d) (clear : (c : ℕ) → c < n → ¬ Meets d (see c)) where
      pub some_other_side_leaves : Enters F see d s → (e : ℕ) × Other F s e × Leaves F see d e
      some_other_side_leaves enters = by_search (some_among? F (leaves? F see d) (F.more s) (F.next s))
        where
          by_search : Dec ((e : ℕ) × Other F s e × Leaves F see d e) → (e : ℕ) × Other F s e × Leaves F see d e
          by_search (yes x) = x
          by_search (no none) =
              let stays = stays_on_the_right G n corners d is_direction clear others_run (λ e o l. none (e, o, l)) in
              let start = on_to_the_next G (λ c. 𝟘 <ℤ cross (see c) d) S.is_a_face enters in
              let end = carried_to_the_last G (λ c. 𝟘 <ℤ cross (see c) d) (G.next_is_a_face s S.is_a_face) stays start in
              absurd (not_left_of_both_ends _ _ d S.opposite enters (less_is_at_most (rw (others_end_where_it_starts G S.is_a_face) at end)))

  -- ---- both cells

  module _ {s : ℕ} (S : WithinSide F N see s) where
    -- the neighbour's line has the two ends reversed
    left_end_beyond : F.left_end (F.back s) ≡ F.right_end s
    left_end_beyond = G.back_finishes s S.is_a_face S.free

    -- no direction leaves by a side of one and by a side of the other
    across : (d : Point) {e x : ℕ} → Other F s e → Other F (F.back s) x → LeavesFromRight F see d e → LeavesFromRight F see d x → ⊥
    across d {e} {x} o o' l l' = by_cases (enters_or_along S o l) (enters_or_along (from_beyond S) o' l')
      where
        not_right : 𝟘 ≤ℤ cross (see (F.left_end s)) d
        not_right = leaving_is_not_right S o l

        not_left : 𝟘 ≤ℤ cross (see (F.right_end s)) d
        not_left = rw left_end_beyond at (leaving_is_not_right (from_beyond S) o' l')

        by_side : (𝟘 <ℤ cross (see (F.left_end s)) d) ⊎ (cross (see (F.left_end s)) d ≤ℤ 𝟘) → 𝟘 <ℤ cross (see (F.left_end s)) (see (F.left_end e)) → 𝟘 <ℤ cross (see (F.right_end s)) (see (F.left_end x)) → ⊥
        by_side (inl enters) k k' = not_left_of_both_ends _ _ d S.opposite enters not_left
        by_side (inr not_left_of_it) k k' =
            a_ray_along_a_line_has_one_side_left _ d _ _ (at_most_both_ways not_left_of_it not_right) k l.left
            (left_of_the_other_end_is_right _ _ _ S.opposite k') l'.left

        by_cases : (Enters F see d s) ⊎ (𝟘 <ℤ cross (see (F.left_end s)) (see (F.left_end e))) → (Enters F see d (F.back s)) ⊎ (𝟘 <ℤ cross (see (F.left_end (F.back s))) (see (F.left_end x))) → ⊥
        by_cases (inl enters) k = not_left_of_both_ends _ _ d S.opposite enters not_left
        by_cases (inr k) (inl enters) = not_left_of_both_ends _ _ d (opposite_turns _ _ S.opposite) (rw left_end_beyond at enters) not_right
        by_cases (inr k) (inr k') = by_side (less_or_not 𝟘 (cross (see (F.left_end s)) d)) k (rw left_end_beyond at k')

    pub other_sides_apart : (d : Point) → NeverTwice (LeavesFromRight F see d) (other_sides F s ++ other_sides F (F.back s))
    other_sides_apart d =
        never_twice_joined (sides_apart G d _ _ (others_run S)) (sides_apart G d _ _ (others_run (from_beyond S)))
        (λ x y i j p q l k. across d (at_is_among F p) (at_is_among F q) l k)

    module _ (n : ℕ) (corners : (e : ℕ) → e < N → F.right_end e < n) (d : Point) (is_direction : Direction d) (clear : (c : ℕ) → c < n → ¬ Meets d (see c)) where
      -- d enters one of the two cells: along the line it would meet one of its ends
      pub enters_one : (Enters F see d s) ⊎ (Enters F see d (F.back s))
      enters_one =
          by_passing (passes_a_corner G n corners d is_direction clear (left_end_exists G corners S.is_a_face) (opposite_has_length _ _ (opposite_turns _ _ S.opposite)))
        where
          by_passing : Passes d (see (F.left_end s)) → (Enters F see d s) ⊎ (Enters F see d (F.back s))
          by_passing (left k) = inl k
          by_passing (right k) = inr (rw left_end_beyond (right_of_one_end_is_left_of_the_other _ _ d S.opposite k))
          by_passing (away e k) =
              absurd
              (clear _ (corners s S.is_a_face)
              (record {
                along = along_one_end_is_along_the_other _ _ d S.opposite (opposite_has_length _ _ (opposite_turns _ _ S.opposite)) e;
                ahead = away_from_one_end_is_towards_the_other _ _ d S.opposite e k;
              }))

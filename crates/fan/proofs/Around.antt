-- The lines around a stand, of either kind: each is seen, no direction leaves by two of them, a direction that meets no corner leaves by one, and there is fuel
-- for each. Nothing else is asked of them by the laws of the listing.
use mathlib.Core.List.{List, ◌∷◌, ◌++◌}
use mathlib.Core.Logic.{◌⊎◌, inl, inr}
use Prim.Native.Nat.{ℕ, suc, ◌+◌, ◌<◌}
use native.Mathlib.Omega.{arith}
use lib.ListN.{length, length-append}
use Rattle.plane.specs.Side.{Point}
use Rattle.plane.specs.Cone.{Meets, Direction}
use Rattle.fan.specs.Sight.{Floor, Standing, other_sides, lines_around, unentered}
use Rattle.fan.specs.Sight.Standing.{inside, within}
use Rattle.fan.specs.Once.{At, NeverTwice}
use Rattle.fan.specs.Once.At.{later}
use Rattle.fan.specs.Walk.{Leaves, Enters, Begins}
use Rattle.fan.specs.Walk.Begins.{in_the_cell, in_its_cell, in_the_neighbour}
use Rattle.fan.proofs.Exit.{LeavesFromRight}
use Rattle.fan.proofs.Fuel.{Enough, fuel_inside}
use Rattle.fan.proofs.Geometry.{Geometry, InSight, among_is_a_face}
use Rattle.fan.proofs.Places.{either_list, first_joined, second_joined, never_twice_after, Some}
use Rattle.fan.proofs.Start.{Start, start_run, side_in_sight, sides_apart, at_is_among, among_is_at, some_side, some_side_leaves}
use Rattle.fan.proofs.WithinSide.{WithinSide, from_beyond, others_run, leaving_enters, fuel_within, other_sides_apart, some_other_side_leaves, enters_one}

-- the stand is there
pub data Stands (F : Floor) (N : ℕ) (see : ℕ → Point) : Standing → Type 0 where
  stands_inside : {f : ℕ} → Start F N see f → Stands F N see (inside f)
  stands_within : {s : ℕ} → WithinSide F N see s → Stands F N see (within s)

module _ {F : Floor} {N M : ℕ} {see : ℕ → Point} {cell : ℕ → ℕ} (G : Geometry F N M see cell) where
  -- each line is seen, and no direction leaves by two of them, even where right ends count
  pub record Around (es : List ℕ) : Type 0 where
    pub some_line : 0 < length es
    pub in_sight : (e i : ℕ) → At e es i → InSight G e (F.right_end e) (F.left_end e)
    pub apart : (d : Point) → NeverTwice (LeavesFromRight F see d) es

  -- so behind the first, where another follows
  pub around_on : {e x : ℕ} {es : List ℕ} → Around (e ∷ x ∷ es) → Around (x ∷ es)
  around_on A =
      record {
        some_line = omega arith;
        in_sight = λ y i p. A.in_sight y (suc i) (later p);
        apart = λ d. never_twice_after (A.apart d);
      }

  -- ---- of either kind

  module _ {p : Standing} (S : Stands F N see p) where
    pub around_the_stand : Around (lines_around F p)
    unfolding lines_around
    around_the_stand = by_kind S
      where
        by_kind : {p : Standing} → Stands F N see p → Around (lines_around F p)
        by_kind (stands_inside {f} s) =
            record {
              some_line = some_side F _ f;
              in_sight = λ e i a. side_in_sight G (start_run G s) (at_is_among F a);
              apart = λ d. sides_apart G d _ f (start_run G s);
            }
        by_kind (stands_within {s = s} w) =
            record {
              some_line = omega (arith, some_side F (F.more s) (F.next s), length-append (other_sides F s) (other_sides F (F.back s)));
              in_sight = λ e i a.
                  either_list (other_sides F s) a (λ k b. side_in_sight G (others_run G w) (at_is_among F b))
                  (λ k b. side_in_sight G (others_run G (from_beyond G w)) (at_is_among F b));
              apart = other_sides_apart G w;
            }

    -- there is a crossing for each cell not yet entered
    pub enough_for_each : (e i : ℕ) → At e (lines_around F p) i → Enough G (unentered M p) e (F.right_end e) (F.left_end e)
    unfolding lines_around unentered
    enough_for_each e i a = by_kind S a
      where
        by_kind : {p : Standing} → Stands F N see p → At e (lines_around F p) i → Enough G (unentered M p) e (F.right_end e) (F.left_end e)
        by_kind (stands_inside s) a = fuel_inside G (among_is_a_face G s.is_a_face (at_is_among F a))
        by_kind (stands_within {s = s} w) a =
            either_list (other_sides F s) a (λ k b. fuel_within G w (at_is_among F b)) (λ k b. fuel_within G (from_beyond G w) (at_is_among F b))

    module _ {d : Point} where
      -- the walk that leaves by one of the lines begins in the cell entered, and the other way round
      pub walk_begins : {e i : ℕ} → At e (lines_around F p) i → Leaves F see d e → Begins F see d p e
      unfolding lines_around
      walk_begins {e} {i} a l = by_kind S a
        where
          by_kind : {p : Standing} → Stands F N see p → At e (lines_around F p) i → Begins F see d p e
          by_kind (stands_inside s) a = in_the_cell (at_is_among F a)
          by_kind (stands_within {s = s} w) a =
              either_list (other_sides F s) a (λ k b. let o = at_is_among F b in in_its_cell (leaving_enters G w o l) o)
              (λ k b. let o = at_is_among F b in in_the_neighbour (leaving_enters G (from_beyond G w) o l) o)

    pub begun_at_a_line : {d : Point} {e : ℕ} → Begins F see d p e → (i : ℕ) × At e (lines_around F p) i
    unfolding lines_around
    begun_at_a_line {d} {e} b = by_kind b
      where
        by_kind : {p : Standing} → Begins F see d p e → (i : ℕ) × At e (lines_around F p) i
        by_kind (in_the_cell a) = among_is_at F a
        by_kind (in_its_cell {s} h a) = let (i, q) = among_is_at F a in (i, first_joined (other_sides F (F.back s)) q)
        by_kind (in_the_neighbour {s} h a) = let (i, q) = among_is_at F a in (length (other_sides F s) + i, second_joined (other_sides F s) q)

    module _ (n : ℕ) (corners : (e : ℕ) → e < N → F.right_end e < n) (d : Point) (is_direction : Direction d) (clear : (c : ℕ) → c < n → ¬ Meets d (see c)) where
      -- a direction that meets no corner leaves by one of the lines
      pub some_line_leaves : Some (Leaves F see d) (lines_around F p)
      unfolding lines_around
      some_line_leaves = by_kind S
        where
          by_kind : {p : Standing} → Stands F N see p → Some (Leaves F see d) (lines_around F p)
          by_kind (stands_inside s) =
              let (e, a, l) = some_side_leaves G s n corners d is_direction clear in
              let (i, q) = among_is_at F a in
              (e, i, q, l)
          by_kind (stands_within {s = s} w) = by_cell (enters_one G w n corners d is_direction clear)
            where
              by_cell : (Enters F see d s) ⊎ (Enters F see d (F.back s)) → Some (Leaves F see d) (other_sides F s ++ other_sides F (F.back s))
              by_cell (inl h) =
                  let (e, a, l) = some_other_side_leaves G w n corners d is_direction clear h in
                  let (i, q) = among_is_at F a in
                  (e, i, first_joined (other_sides F (F.back s)) q, l)
              by_cell (inr h) =
                  let (e, a, l) = some_other_side_leaves G (from_beyond G w) n corners d is_direction clear h in
                  let (i, q) = among_is_at F a in
                  (e, length (other_sides F s) + i, second_joined (other_sides F s) q, l)

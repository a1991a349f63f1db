-- Pairs of a plan whose cells are right: whether a cell is in one, and the least cell of any.
use mathlib.Core.Bool.{Bool, true, false}
use mathlib.Core.List.{List}
use mathlib.Core.Path.{◌≡◌, refl, sym, subst}
use Prim.Native.Nat.{ℕ, ◌<◌, ◌≤◌}
use native.Mathlib.Decide.{dec_lt}
use native.Mathlib.Omega.{arith}
use borrow.Author.Tests.{lt-ltb, ltb-true}
use lib.Dec.{ltb}
use lib.IntN.{ℤ}
use Rattle.cells.specs.Least.{least}
use Rattle.cells.specs.Lists.{Cells, cell_count}
use Rattle.cells.specs.Check.{overlapping, in_a_pair, first_overlapping}
use Rattle.cells.specs.Overlap.{Overlap}
use Rattle.cells.specs.Sound.{Numbered, CellsRight}
use Rattle.cells.proofs.Least.{not_both, holds_at_least, fails_before_least, none_holds, least_is}
use Rattle.apart.specs.Refused.{LeastOfAnyPair, NoPair}
use Rattle.apart.proofs.Test.{told_is_overlap, overlap_is_told}

-- two cells overlap whichever is named first
pub turned : {cs : List ℤ} {T : Cells} {c e : ℕ} → Overlap cs T c e → Overlap cs T e c
turned o =
    record {
      different = λ same. o.different (sym same);
      x = o.x;
      y = o.y;
      w = o.w;
      positive = o.positive;
      in_one = o.in_other;
      in_other = o.in_one;
    }

module _ (cs : List ℤ) (T : Cells) where
  -- a cell that the test finds overlapping with some cell is in a pair, and only such a one is
  pub pair_of : (c e : ℕ) → e < cell_count T → overlapping cs T c e ≡ true → in_a_pair cs T c ≡ true
  unfolding in_a_pair
  pair_of c e k t = by_place (dec_lt (least (overlapping cs T c) (cell_count T) 0) (cell_count T))
    where
      by_place : Dec (least (overlapping cs T c) (cell_count T) 0 < cell_count T) → ltb (least (overlapping cs T c) (cell_count T) 0) (cell_count T) ≡ true
      by_place (yes l) = lt-ltb _ _ l
      by_place (no l) = absurd (not_both t (none_holds (overlapping cs T c) (cell_count T) (omega arith) e k))

  pub in_a_pair_with : (c : ℕ) → in_a_pair cs T c ≡ true → (e : ℕ) × (e < cell_count T) × (overlapping cs T c e ≡ true)
  unfolding in_a_pair
  in_a_pair_with c t =
      let l = ltb-true _ _ t in
      (least (overlapping cs T c) (cell_count T) 0, l, holds_at_least (overlapping cs T c) (cell_count T) 0 (omega arith))

module _ (cs : List ℤ) {T : Cells} (N : Numbered T) (right : CellsRight cs T) where
  in_one_is_told : {c e : ℕ} → Overlap cs T c e → in_a_pair cs T c ≡ true
  in_one_is_told {c} {e} o =
      pair_of cs T c e o.in_other.exists (overlap_is_told cs N right o.in_one.exists o.in_other.exists o)

  least_so_far : {c d e : ℕ} → c ≡ first_overlapping cs T → Overlap cs T d e → c ≤ d
  least_so_far {c} {d} is_c o = by_place (dec_lt d (first_overlapping cs T))
    where
      by_place : Dec (d < first_overlapping cs T) → c ≤ d
      by_place (yes l) = absurd (not_both (in_one_is_told o) (fails_before_least (in_a_pair cs T) (cell_count T) 0 d (omega arith) l))
      by_place (no l) = omega arith

  -- the place of 17 is the least cell of any pair
  pub place_is_least : {c : ℕ} → c ≡ first_overlapping cs T → c < cell_count T → LeastOfAnyPair cs T c
  place_is_least {c} is_c h =
      let there : first_overlapping cs T < cell_count T = omega arith in
      let found = in_a_pair_with cs T c (subst (λ (d : ℕ). in_a_pair cs T d ≡ true) (sym is_c) (holds_at_least (in_a_pair cs T) (cell_count T) 0 (omega (arith, there)))) in
      record {
        other = found.0;
        overlaps = told_is_overlap cs N right h found.1 found.2;
        least = λ d e o. (least_so_far is_c o, least_so_far is_c (turned o));
      }

  -- and the least cell of any pair is it
  pub least_is_place : {c : ℕ} → LeastOfAnyPair cs T c → (c ≡ first_overlapping cs T) × (c < cell_count T)
  least_is_place {c} m =
      (least_is (in_a_pair cs T) (cell_count T) c m.overlaps.in_one.exists (in_one_is_told m.overlaps) (λ d l. by_test d l (in_a_pair cs T d) refl), m.overlaps.in_one.exists)
    where
      by_test : (d : ℕ) → d < c → (b : Bool) → in_a_pair cs T d ≡ b → in_a_pair cs T d ≡ false
      by_test d l false t = t
      by_test d l true t =
          let found = in_a_pair_with cs T d t in
          let o = told_is_overlap cs N right (omega (arith, l, m.overlaps.in_one.exists)) found.1 found.2 in
          absurd (omega (arith, (m.least d found.0 o).0))

  -- none is least exactly where no two cells overlap
  pub none_overlaps : cell_count T ≤ first_overlapping cs T → NoPair cs T
  none_overlaps h d e o =
      not_both (in_one_is_told o) (none_holds (in_a_pair cs T) (cell_count T) h d o.in_one.exists)

  pub no_place : NoPair cs T → cell_count T ≤ first_overlapping cs T
  no_place none = by_place (dec_lt (first_overlapping cs T) (cell_count T))
    where
      by_place : Dec (first_overlapping cs T < cell_count T) → cell_count T ≤ first_overlapping cs T
      by_place (yes l) = let m = place_is_least refl l in absurd (none _ _ m.overlaps)
      by_place (no l) = omega arith

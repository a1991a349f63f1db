-- What 17 OVERLAP means for a plan: refused exactly if a pair overlaps and nothing before it applies, at the least cell of any pair.
use mathlib.Core.Bool.{Bool, true, false, not}
use mathlib.Core.List.{List}
use mathlib.Core.Path.{◌≡◌, refl, sym, ◌∙◌, ap, subst}
use Prim.Native.Nat.{ℕ, ◌<◌, ◌≤◌}
use native.Mathlib.Decide.{dec_lt}
use native.Mathlib.Omega.{arith}
use borrow.Author.Tests.{lt-ltb, le-ltb, ltb-false}
use lib.Dec.{ltb}
use lib.ListN.{length}
use lib.IntN.{ℤ}
use Rattle.limits.specs.Limits.{sized}
use Rattle.limits.specs.Reply.{number}
use Rattle.limits.specs.declared.Plan.{Plan}
use Rattle.limits.specs.declared.Refusal.{Refusal}
use Rattle.limits.specs.declared.Refusal.TheVariants.{Frame, Size, Corner, Cell, Neighbour, Door, Overlap}
use Rattle.cells.specs.Lists.{Cells, corner_count, cell_count, face_count}
use Rattle.cells.specs.Cut.{cells_of}
use Rattle.cells.specs.Check.{framed, first_wrong_corner, first_wrong_cell, first_wrong_face, first_wrong_door, first_overlapping, refuse_if, checked_cells, checked}
use Rattle.cells.specs.Sound.{Numbered, CellsRight}
use Rattle.cells.proofs.Accepted.{passed}
use Rattle.cells.proofs.Checks.{cells_right}
use Rattle.cells.proofs.Tables.{numbered}
use Rattle.apart.specs.Refused.{checked_cells_before, checked_before, RefusedExactly}
use Rattle.apart.proofs.Pairs.{place_is_least, least_is_place, none_overlaps, no_place}
use Rattle.std.specs.Prelude.{Err, Ok, Result}

-- ---- the check is the one before, and then the pairs

abbrev then_pairs : List ℤ → Cells → Result Plan Refusal → Result Plan Refusal
then_pairs cs T (Ok p) = refuse_if (ltb (first_overlapping cs T) (cell_count T)) (Overlap (first_overlapping cs T)) (Ok p)
then_pairs cs T (Err r) = Err r

-- no answer is both
clash : {p : Plan} {r : Refusal} → ◌≡◌ {A = Result Plan Refusal} (Ok p) (Err r) → ⊥
clash e = let z : ◌≡◌ {A = ℕ} 0 1 = cc in omega arith

module _ (cs : List ℤ) (T : Cells) where
  within_a_refusal : (t : Bool) (r : Refusal) (rest : Result Plan Refusal) → then_pairs cs T (refuse_if t r rest) ≡ refuse_if t r (then_pairs cs T rest)
  within_a_refusal true r rest = refl
  within_a_refusal false r rest = refl

  pairs_come_last : (ds : List ℕ) → then_pairs cs T (checked_cells_before cs T ds) ≡ checked_cells cs T ds
  unfolding checked_cells checked_cells_before
  pairs_come_last ds =
      within_a_refusal (not (sized (corner_count cs) (cell_count T) (length ds))) Size _
      ∙ ap (refuse_if (not (sized (corner_count cs) (cell_count T) (length ds))) Size)
      (within_a_refusal (ltb (first_wrong_corner cs) (corner_count cs)) (Corner (first_wrong_corner cs)) _
      ∙ ap (refuse_if (ltb (first_wrong_corner cs) (corner_count cs)) (Corner (first_wrong_corner cs)))
      (within_a_refusal (ltb (first_wrong_cell cs T) (cell_count T)) (Cell (first_wrong_cell cs T)) _
      ∙ ap (refuse_if (ltb (first_wrong_cell cs T) (cell_count T)) (Cell (first_wrong_cell cs T)))
      (within_a_refusal (ltb (first_wrong_face T) (face_count T)) (Neighbour (first_wrong_face T)) _
      ∙ ap (refuse_if (ltb (first_wrong_face T) (face_count T)) (Neighbour (first_wrong_face T)))
      (within_a_refusal (ltb (first_wrong_door T ds) (length ds)) (Door (first_wrong_door T ds)) _))))

module _ (k : ℕ) (cs : List ℤ) (ts ds : List ℕ) where
  pairs_last : then_pairs cs (cells_of k ts) (checked_before k cs ts ds) ≡ checked k cs ts ds
  unfolding checked checked_before
  pairs_last =
      within_a_refusal cs (cells_of k ts) (not (framed k cs ts)) Frame _
      ∙ ap (refuse_if (not (framed k cs ts)) Frame) (pairs_come_last cs (cells_of k ts) ds)

  -- what came so far has right cells
  right_so_far : {p : Plan} → checked_before k cs ts ds ≡ Ok p → CellsRight cs (cells_of k ts)
  unfolding checked_before checked_cells_before
  right_so_far e =
      let T = cells_of k ts in
      let t₁ = passed (not (framed k cs ts)) Frame _ e in
      let t₂ = passed (not (sized (corner_count cs) (cell_count T) (length ds))) Size _ t₁.1 in
      let t₃ = passed (ltb (first_wrong_corner cs) (corner_count cs)) (Corner (first_wrong_corner cs)) _ t₂.1 in
      let t₄ = passed (ltb (first_wrong_cell cs T) (cell_count T)) (Cell (first_wrong_cell cs T)) _ t₃.1 in
      cells_right cs T (ltb-false _ _ t₄.0)

  -- ---- 17 is no refusal of before

  not_before : (c : ℕ) → checked_before k cs ts ds ≡ Err (Overlap c) → ⊥
  unfolding checked_before checked_cells_before
  not_before c =
      let T = cells_of k ts in
      another (not (framed k cs ts)) Frame _ (λ e. omega arith)
      (another (not (sized (corner_count cs) (cell_count T) (length ds))) Size _ (λ e. omega arith)
      (another (ltb (first_wrong_corner cs) (corner_count cs)) (Corner (first_wrong_corner cs)) _ (λ e. omega arith)
      (another (ltb (first_wrong_cell cs T) (cell_count T)) (Cell (first_wrong_cell cs T)) _ (λ e. omega arith)
      (another (ltb (first_wrong_face T) (face_count T)) (Neighbour (first_wrong_face T)) _ (λ e. omega arith)
      (another (ltb (first_wrong_door T ds) (length ds)) (Door (first_wrong_door T ds)) _ (λ e. omega arith)
      clash)))))
    where
      another : (t : Bool) (r : Refusal) (rest : Result Plan Refusal) → (number r ≡ 17 → ⊥) → (rest ≡ Err (Overlap c) → ⊥) → refuse_if t r rest ≡ Err (Overlap c) → ⊥
      another true r rest other none e = other (ap number (same e))
        where
          same : ◌≡◌ {A = Result Plan Refusal} (Err r) (Err (Overlap c)) → r ≡ Overlap c
          same e = cc
      another false r rest other none e = none e

  -- ---- 17, exactly

  pub refused_exactly : RefusedExactly k cs ts ds
  refused_exactly = by_answer (checked_before k cs ts ds) refl
    where
      T : Cells
      T = cells_of k ts

      N : Numbered T
      N = numbered k ts

      same_refusal : {r s : Refusal} → ◌≡◌ {A = Result Plan Refusal} (Err r) (Err s) → r ≡ s
      same_refusal e = cc

      same_place : {c d : ℕ} → ◌≡◌ {A = Result Plan Refusal} (Err (Overlap c)) (Err (Overlap d)) → c ≡ d
      same_place e = cc

      refused_now : {t : Bool} (r : Refusal) (p : Plan) → t ≡ true → refuse_if t r (Ok p) ≡ Err r
      refused_now r p e = rw e refl

      accepted_now : {t : Bool} (r : Refusal) (p : Plan) → t ≡ false → refuse_if t r (Ok p) ≡ Ok p
      accepted_now r p e = rw e refl

      accepted_so_far : (p : Plan) → checked_before k cs ts ds ≡ Ok p → refuse_if (ltb (first_overlapping cs T) (cell_count T)) (Overlap (first_overlapping cs T)) (Ok p) ≡ checked k cs ts ds
      accepted_so_far p e = ap (then_pairs cs T) (sym e) ∙ pairs_last

      -- accepted so far, and some cell is in a pair or none is
      by_pairs : (p : Plan) → checked_before k cs ts ds ≡ Ok p → Dec (first_overlapping cs T < cell_count T) → RefusedExactly k cs ts ds
      by_pairs p e (yes l) =
          let a : checked k cs ts ds ≡ Err (Overlap (first_overlapping cs T)) = sym (accepted_so_far p e) ∙ refused_now _ p (lt-ltb _ _ l) in
          record {
            told = λ c t. ((p, e), place_is_least cs N (right_so_far e) (sym (same_place (sym a ∙ t))) (subst (λ (d : ℕ). d < cell_count T) (same_place (sym a ∙ t)) l));
            tells = λ f c m. a ∙ ap (λ (d : ℕ). Err (Overlap d)) (sym (least_is_place cs N (right_so_far e) m).0);
            accepted = λ q t. absurd (clash (sym t ∙ a));
            accepts = λ q f none. absurd (omega (arith, l, no_place cs N (right_so_far e) none));
            as_before = λ r f. absurd (clash (sym e ∙ f));
            no_others = λ r other t. absurd (other _ (sym (same_refusal (sym a ∙ t))));
          }
      by_pairs p e (no l) =
          let past : cell_count T ≤ first_overlapping cs T = omega arith in
          let a : checked k cs ts ds ≡ Ok p = sym (accepted_so_far p e) ∙ accepted_now _ p (le-ltb _ _ past) in
          record {
            told = λ c t. absurd (clash (sym a ∙ t));
            tells = λ f c m. absurd (omega (arith, past, (least_is_place cs N (right_so_far e) m).0, (least_is_place cs N (right_so_far e) m).1));
            accepted = λ q t. (e ∙ (sym a ∙ t), none_overlaps cs N (right_so_far e) past);
            accepts = λ q f none. a ∙ (sym e ∙ f);
            as_before = λ r f. absurd (clash (sym e ∙ f));
            no_others = λ r other t. absurd (clash (sym a ∙ t));
          }

      by_answer : (b : Result Plan Refusal) → checked_before k cs ts ds ≡ b → RefusedExactly k cs ts ds
      by_answer (Ok p) e = by_pairs p e (dec_lt (first_overlapping cs T) (cell_count T))
      by_answer (Err r) e =
          let a : checked k cs ts ds ≡ Err r = sym (ap (then_pairs cs T) (sym e) ∙ pairs_last) in
          record {
            told = λ c t. absurd (not_before c (e ∙ (sym a ∙ t)));
            tells = λ f c m. absurd (clash (sym f ∙ e));
            accepted = λ q t. absurd (clash (sym t ∙ a));
            accepts = λ q f none. absurd (clash (sym f ∙ e));
            as_before = λ s f. a ∙ (sym e ∙ f);
            no_others = λ s other t. e ∙ (sym a ∙ t);
          }

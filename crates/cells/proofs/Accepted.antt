-- What the check accepts is sound, and its reply has the counts.
use mathlib.Core.Bool.{Bool, true, false, not}
use mathlib.Core.List.{List}
use mathlib.Core.Path.{◌≡◌, refl, sym, ap, subst}
use Prim.Native.Nat.{ℕ, ◌%◌, ◌≤◌}
use native.Mathlib.Omega.{arith}
use borrow.Author.Tests.{eqb-true, ltb-false, not-false}
use lib.Dec.{eqb, ltb}
use lib.ListN.{length}
use lib.IntN.{ℤ}
use Rattle.exact.proofs.Truth.{both_true}
use Rattle.limits.specs.Limits.{most_corners, most_doors, sized}
use Rattle.cells.specs.Lists.{Cells, corner_count, cell_count, face_count}
use Rattle.cells.specs.Cut.{cut, is_whole, cells_of}
use Rattle.cells.specs.Check.{framed, wrong_door, in_a_pair, refuse_if, checked_cells, checked, first_wrong_corner, first_wrong_cell, first_wrong_face, first_wrong_door, first_overlapping}
use Rattle.cells.specs.Sound.{Numbered, Sound}
use Rattle.limits.specs.declared.Plan.{Plan}
use Rattle.limits.specs.declared.Refusal.{Refusal}
use Rattle.limits.specs.declared.Refusal.TheVariants.{Frame, Size, Corner, Cell, Neighbour, Door, Overlap}
use Rattle.cells.proofs.Least.{none_holds}
use Rattle.cells.proofs.Checks.{corners_near, cells_right, neighbours_right}
use Rattle.cells.proofs.Plans.{counts}
use Rattle.cells.proofs.Tables.{numbered}
use Rattle.std.specs.Prelude.{Err, Ok, Result}

-- an acceptance passes each test on the way to it
module _ {p : Plan} where
  pub passed : (t : Bool) (r : Refusal) (rest : Result Plan Refusal) → refuse_if t r rest ≡ Ok p → (t ≡ false) × (rest ≡ Ok p)
  passed true r rest e = absurd (never e)
    where
      never : ◌≡◌ {A = Result Plan Refusal} (Err r) (Ok p) → ⊥
      never e = let z : ◌≡◌ {A = ℕ} 0 1 = cc in omega arith
  passed false r rest e = (refl, e)

abbrev pub counted : List ℤ → Cells → List ℕ → Plan
counted cs T ds = record { corners = corner_count cs; cells = cell_count T; doors = length ds }

-- corners, whole cells and doors that are accepted
accepted_cells_are_sound : (cs : List ℤ) {T : Cells} (ds : List ℕ) (p : Plan) → length cs % 2 ≡ 0 → Numbered T → checked_cells cs T ds ≡ Ok p → Sound cs T ds × (p ≡ counted cs T ds)
unfolding checked_cells
accepted_cells_are_sound cs {T} ds p even numbered e =
    let t₂ = passed (not (sized (corner_count cs) (cell_count T) (length ds))) Size _ e in
    let t₃ = passed (ltb (first_wrong_corner cs) (corner_count cs)) (Corner (first_wrong_corner cs)) _ t₂.1 in
    let t₄ = passed (ltb (first_wrong_cell cs T) (cell_count T)) (Cell (first_wrong_cell cs T)) _ t₃.1 in
    let t₅ = passed (ltb (first_wrong_face T) (face_count T)) (Neighbour (first_wrong_face T)) _ t₄.1 in
    let t₆ = passed (ltb (first_wrong_door T ds) (length ds)) (Door (first_wrong_door T ds)) _ t₅.1 in
    let t₇ = passed (ltb (first_overlapping cs T) (cell_count T)) (Overlap (first_overlapping cs T)) _ t₆.1 in (
      record {
        whole_corners = even;
        numbered = numbered;
        in_size = not-false _ t₂.0;
        corners = corners_near cs (ltb-false _ _ t₃.0);
        cells = cells_right cs T (ltb-false _ _ t₄.0);
        neighbours = neighbours_right T (ltb-false _ _ t₅.0);
        doors = none_holds (wrong_door T ds) (length ds) (ltb-false _ _ t₆.0);
        apart = none_holds (in_a_pair cs T) (cell_count T) (ltb-false _ _ t₇.0);
      },
      sym (same t₇.1),
    )
  where
    same : {q : Plan} → ◌≡◌ {A = Result Plan Refusal} (Ok q) (Ok p) → q ≡ p
    same e = cc

-- lists that are accepted, the cells of kind k
module _ (k : ℕ) (cs : List ℤ) (ts ds : List ℕ) where
  pub accepted_is_sound : (p : Plan) → checked k cs ts ds ≡ Ok p → Sound cs (cells_of k ts) ds × (p ≡ counted cs (cells_of k ts) ds)
  unfolding checked framed
  accepted_is_sound p e =
      let t = passed (not (framed k cs ts)) Frame _ e in
      let framed = both_true (eqb (length cs % 2) 0) (is_whole (cut k ts)) (not-false _ t.0) in
      accepted_cells_are_sound cs ds p (eqb-true _ _ framed.0) (numbered k ts) t.1

  -- the counts replied are within the limits
  module _ {p : Plan} (accepted : checked k cs ts ds ≡ Ok p) where
    pub accepted_corners : p.corners ≡ corner_count cs
    accepted_corners = ap (λ (p : Plan). p.corners) (accepted_is_sound p accepted).1

    pub accepted_doors : p.doors ≡ length ds
    accepted_doors = ap (λ (p : Plan). p.doors) (accepted_is_sound p accepted).1

    pub few_corners : p.corners ≤ most_corners
    few_corners = subst (λ (k : ℕ). k ≤ most_corners) (sym accepted_corners) (counts _ _ _ (accepted_is_sound p accepted).0.in_size).corners_at_most

    pub few_doors : p.doors ≤ most_doors
    few_doors = subst (λ (k : ℕ). k ≤ most_doors) (sym accepted_doors) (counts _ _ _ (accepted_is_sound p accepted).0.in_size).doors_at_most

-- What 17 OVERLAP means for a plan (document 02, A7), beside the check as it stood before.
use Rattle.std.specs.Prelude.{not, List, ◌≡◌, ℕ, ◌≤◌, ltb, length, ℤ, Err, Ok, Result}
use Rattle.limits.specs.Limits.{sized}
use Rattle.limits.specs.declared.Plan.{Plan}
use Rattle.limits.specs.declared.Refusal.{Refusal}
use Rattle.limits.specs.declared.Refusal.TheVariants.{Frame, Size, Corner, Cell, Neighbour, Door, Overlap}
use Rattle.cells.specs.Lists.{Cells, corner_count, cell_count, face_count}
use Rattle.cells.specs.Cut.{cells_of}
use Rattle.cells.specs.Check.{framed, first_wrong_corner, first_wrong_cell, first_wrong_face, first_wrong_door, refuse_if, checked}
use Rattle.cells.specs.Overlap.{Overlap as TwoOverlap}

-- the check as it stood before A7: its last refusal is DOOR
unfoldable pub checked_cells_before : List ℤ → Cells → List ℕ → Result Plan Refusal
checked_cells_before cs T ds =
    refuse_if (not (sized (corner_count cs) (cell_count T) (length ds))) Size
    (refuse_if (ltb (first_wrong_corner cs) (corner_count cs)) (Corner (first_wrong_corner cs))
    (refuse_if (ltb (first_wrong_cell cs T) (cell_count T)) (Cell (first_wrong_cell cs T))
    (refuse_if (ltb (first_wrong_face T) (face_count T)) (Neighbour (first_wrong_face T))
    (refuse_if (ltb (first_wrong_door T ds) (length ds)) (Door (first_wrong_door T ds))
    (Ok (record { corners = corner_count cs; cells = cell_count T; doors = length ds }))))))

unfoldable pub checked_before : ℕ → List ℤ → List ℕ → List ℕ → Result Plan Refusal
checked_before k cs ts ds = refuse_if (not (framed k cs ts)) Frame (checked_cells_before cs (cells_of k ts) ds)

-- cell c is the least that occurs in any overlapping pair
pub record LeastOfAnyPair (cs : List ℤ) (T : Cells) (c : ℕ) : Type 0 where
  pub other : ℕ
  pub overlaps : TwoOverlap cs T c other
  pub least : (d e : ℕ) → TwoOverlap cs T d e → (c ≤ d) × (c ≤ e)

-- no two cells overlap
abbrev pub NoPair : List ℤ → Cells → Type 0
NoPair cs T = (d e : ℕ) → TwoOverlap cs T d e → ⊥

pub record RefusedExactly (k : ℕ) (cs : List ℤ) (ts ds : List ℕ) : Type 0 where
  -- 17 exactly if nothing before it applies and a pair overlaps, at the least cell of any pair
  pub told : (c : ℕ) → checked k cs ts ds ≡ Err (Overlap c) → ((p : Plan) × (checked_before k cs ts ds ≡ Ok p)) × LeastOfAnyPair cs (cells_of k ts) c
  pub tells : {p : Plan} → checked_before k cs ts ds ≡ Ok p → (c : ℕ) → LeastOfAnyPair cs (cells_of k ts) c → checked k cs ts ds ≡ Err (Overlap c)
  -- the accepted plans are those of before less the overlapping ones
  pub accepted : (p : Plan) → checked k cs ts ds ≡ Ok p → (checked_before k cs ts ds ≡ Ok p) × NoPair cs (cells_of k ts)
  pub accepts : (p : Plan) → checked_before k cs ts ds ≡ Ok p → NoPair cs (cells_of k ts) → checked k cs ts ds ≡ Ok p
  -- every other refusal stands as it was
  pub as_before : (r : Refusal) → checked_before k cs ts ds ≡ Err r → checked k cs ts ds ≡ Err r
  pub no_others : (r : Refusal) → ((c : ℕ) → r ≡ Overlap c → ⊥) → checked k cs ts ds ≡ Err r → checked_before k cs ts ds ≡ Err r

-- What the tables lent to a listing hold, and that a plan which was measured fits them.
use mathlib.Core.List.{List}
use mathlib.Core.Path.{◌≡◌, ap₂, sym, subst}
use Prim.Native.Nat.{ℕ, ◌*◌, ◌%◌, ◌≤◌}
use native.Mathlib.Omega.{arith}
use borrow.Author.Tests.{eqb-true}
use lib.Dec.{eqb}
use lib.ListN.{length, take}
use lib.Seq.{length-take-le}
use lib.IntN.{ℤ}
use Rattle.exact.proofs.Truth.{both_true}
use Rattle.limits.specs.Limits.{most_corners}
use Rattle.limits.specs.declared.Plan.{Plan}
use Rattle.cells.specs.Lists.{Cells, tabled, corner_count, cell_count, face_count}
use Rattle.cells.specs.Cut.{cut, is_whole, cells_of}
use Rattle.cells.specs.Check.{framed, checked}
use Rattle.cells.specs.Backed.{Backed}
use Rattle.cells.specs.Sound.{Sound}
use Rattle.boxes.specs.Boxes.{Boxed}
use Rattle.cells.proofs.Accepted.{accepted_is_sound}
use Rattle.cells.proofs.Plans.{counts}
use Rattle.checking.specs.Sizes.{Fit}
use Rattle.std.specs.Prelude.{Ok}

-- tables that hold the cells of a list are its cells
pub drawn_cells : {faces firsts : List ℕ} (k : ℕ) (ts : List ℕ) → faces ≡ (cells_of k ts).faces → firsts ≡ (cells_of k ts).firsts → tabled faces firsts ≡ cells_of k ts
drawn_cells k ts e f = ap₂ tabled e f

-- of an accepted plan the faces on the other side stand in the table, whichever way its cells are told
pub noted_backs : {T : Cells} (k : ℕ) (cs : List ℤ) (ts ds bs : List ℕ) → T ≡ cells_of k ts → (Sound cs (cells_of k ts) ds → Backed (cells_of k ts) bs) → Sound cs T ds → Backed T bs
noted_backs k cs ts ds bs e noted sound = subst (λ (T : Cells). Backed T bs) (sym e) (noted (subst (λ (T : Cells). Sound cs T ds) e sound))

-- and so do the boxes of its cells: it is as finding a stand asks
pub noted_boxes : {T : Cells} (k : ℕ) (cs : List ℤ) (ts ds bs : List ℕ) (xs : List ℤ) → T ≡ cells_of k ts → (Sound cs (cells_of k ts) ds → (Backed (cells_of k ts) bs × Boxed cs (cells_of k ts) xs)) → Sound cs T ds → Sound cs T ds × Backed T bs × Boxed cs T xs
noted_boxes k cs ts ds bs xs e noted sound = (
  sound,
  noted_backs k cs ts ds bs e (λ s. (noted s).0) sound,
  subst (λ (T : Cells). Boxed cs T xs) (sym e) (noted (subst (λ (T : Cells). Sound cs T ds) e sound)).1,
)

-- so is an accepted plan, its cells as they were drawn
pub plan_checked : {T : Cells} (k : ℕ) (cs : List ℤ) (ts ds bs : List ℕ) (xs : List ℤ) {p : Plan} → T ≡ cells_of k ts → checked k cs ts ds ≡ Ok p → (Sound cs (cells_of k ts) ds → (Backed (cells_of k ts) bs × Boxed cs (cells_of k ts) xs)) → Sound cs T ds × Backed T bs × Boxed cs T xs
plan_checked k cs ts ds bs xs {p} e accepted noted =
    noted_boxes k cs ts ds bs xs e noted (subst (λ (T : Cells). Sound cs T ds) (sym e) (accepted_is_sound k cs ts ds p accepted).0)

-- room for the lines of the cells is room for them as they were drawn
pub room_for_lines : {T : Cells} {n : ℕ} (k : ℕ) (ts : List ℕ) → T ≡ cells_of k ts → n ≡ 4 * face_count (cells_of k ts) → n ≡ 4 * face_count T
room_for_lines {n = n} k ts e h = subst (λ (T : Cells). n ≡ 4 * face_count T) (sym e) h

-- a part from the beginning is as long as it was asked to be
pub lent : {A : Type 0} (xs : List A) (n : ℕ) → n ≤ length xs → n ≡ length (take n xs)
lent xs n h = sym (length-take-le n xs h)

-- the corners of a plan that was measured are few
pub few_coordinates : {k : ℕ} {cs : List ℤ} {ts ds : List ℕ} {m n : ℕ} → Fit k cs ts ds m n → length cs ≤ 2 * most_corners
unfolding framed
few_coordinates {k} {cs} {ts} {ds} fit =
    omega (arith, (counts (corner_count cs) (cell_count (cells_of k ts)) (length ds) fit.in_size).corners_at_most, eqb-true (length cs % 2) 0 (both_true (eqb (length cs % 2) 0) (is_whole (cut k ts)) fit.in_frame).0)

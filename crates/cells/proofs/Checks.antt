-- The plan check, way out by way out: what was found, and the reply.
use mathlib.Core.Bool.{true, false}
use mathlib.Core.List.{List}
use mathlib.Core.Path.{◌≡◌}
use Prim.Native.Nat.{ℕ, ◌<◌, ◌≤◌}
use native.Mathlib.Omega.{arith}
use borrow.Author.Tests.{lt-ltb, le-ltb, lt-leb}
use lib.Dec.{leb→le}
use lib.ListN.{length}
use lib.IntN.{ℤ, pos, negsuc, neg_ℤ, nat_abs}
use lib.Signed.{◌≤ℤ◌, lt_z}
use Rattle.exact.specs.Within.{Within}
use Rattle.exact.proofs.Order.{ltZ_false}
use Rattle.exact.proofs.Truth.{neither_true}
use Rattle.limits.specs.Limits.{sized, coordinate_limit}
use Rattle.cells.specs.Lists.{Cells, corner_count, cell_count, face_count, corner_at}
use Rattle.cells.specs.Cut.{cells_of}
use Rattle.cells.specs.Check.{framed, outside, wrong_corner, checked_cells, checked, first_wrong_corner, first_wrong_cell, first_wrong_face, first_wrong_door, first_overlapping}
use Rattle.cells.specs.Sound.{CornersNear, CellsRight, NeighboursRight}
use Rattle.limits.specs.declared.Refusal.TheVariants.{Frame, Size, Corner, Cell, Neighbour, Door, Overlap}
use Rattle.cells.proofs.Least.{none_holds}
use Rattle.std.specs.Prelude.{Err, Ok}

-- ---- what passed

between : (z : ℤ) → neg_ℤ (pos coordinate_limit) ≤ℤ z → z ≤ℤ pos coordinate_limit → nat_abs z ≤ coordinate_limit
between (pos n) h k = leb→le n coordinate_limit k.le
between (negsuc n) h k = let l : n ≤ 536870911 = leb→le n 536870911 h.le in omega arith

pub not_outside : (z : ℤ) → outside z ≡ false → Within coordinate_limit z
unfolding outside
not_outside z e =
    let both = neither_true (lt_z z (neg_ℤ (pos coordinate_limit))) (lt_z (pos coordinate_limit) z) e in
    record { size = between z (ltZ_false z _ both.0) (ltZ_false _ z both.1) }

within_is_not_outside : (z : ℤ) → Within coordinate_limit z → outside z ≡ false
unfolding outside
within_is_not_outside (pos n) w = le-ltb coordinate_limit n w.size
within_is_not_outside (negsuc n) w = let h : n < coordinate_limit = omega (arith, w.size) in rw (lt-leb coordinate_limit n h)

pub corners_near : (cs : List ℤ) → corner_count cs ≤ first_wrong_corner cs → CornersNear cs
unfolding wrong_corner
corners_near cs h =
    record {
      near = λ i l.
          let both = neither_true (outside (corner_at cs i).x) (outside (corner_at cs i).y) (none_holds (wrong_corner cs) (corner_count cs) h i l) in
          record { x_near = not_outside _ both.0; y_near = not_outside _ both.1 };
    }

pub near_is_right : {cs : List ℤ} → CornersNear cs → (i : ℕ) → i < corner_count cs → wrong_corner cs i ≡ false
unfolding wrong_corner
near_is_right {cs} n i l =
    simp (within_is_not_outside (corner_at cs i).x (n.near i l).x_near, within_is_not_outside (corner_at cs i).y (n.near i l).y_near)

pub cells_right : (cs : List ℤ) (T : Cells) → cell_count T ≤ first_wrong_cell cs T → CellsRight cs T
cells_right cs T h = record { right = none_holds _ (cell_count T) h }

pub neighbours_right : (T : Cells) → face_count T ≤ first_wrong_face T → NeighboursRight T
neighbours_right T h = record { right = none_holds _ (face_count T) h }

-- ---- the replies, in their order

module _ (k : ℕ) (cs : List ℤ) (ts ds : List ℕ) where
  pub not_framed : framed k cs ts ≡ false → Err Frame ≡ checked k cs ts ds
  unfolding checked
  not_framed h = simp h

  pub in_a_frame : framed k cs ts ≡ true → checked_cells cs (cells_of k ts) ds ≡ checked k cs ts ds
  unfolding checked
  in_a_frame h = simp h

module _ (cs : List ℤ) (T : Cells) (ds : List ℕ) where
  pub out_of_size : sized (corner_count cs) (cell_count T) (length ds) ≡ false → Err Size ≡ checked_cells cs T ds
  unfolding checked_cells
  out_of_size h = simp h

  module _ (in_size : sized (corner_count cs) (cell_count T) (length ds) ≡ true) where
    pub at_a_corner : {i : ℕ} → i ≡ first_wrong_corner cs → i < corner_count cs → Err (Corner i) ≡ checked_cells cs T ds
    unfolding checked_cells
    at_a_corner {i} e h =
        let k : first_wrong_corner cs < corner_count cs = rw e at h in
        simp (in_size, lt-ltb _ _ k, e)

    module _ (corners : corner_count cs ≤ first_wrong_corner cs) where
      pub at_a_cell : {i : ℕ} → i ≡ first_wrong_cell cs T → i < cell_count T → Err (Cell i) ≡ checked_cells cs T ds
      unfolding checked_cells
      at_a_cell {i} e h =
          let k : first_wrong_cell cs T < cell_count T = rw e at h in
          simp (in_size, le-ltb _ _ corners, lt-ltb _ _ k, e)

      module _ (cells : cell_count T ≤ first_wrong_cell cs T) where
        pub at_a_face : {i : ℕ} → i ≡ first_wrong_face T → i < face_count T → Err (Neighbour i) ≡ checked_cells cs T ds
        unfolding checked_cells
        at_a_face {i} e h =
            let k : first_wrong_face T < face_count T = rw e at h in
            simp (in_size, le-ltb _ _ corners, le-ltb _ _ cells, lt-ltb _ _ k, e)

        module _ (faces : face_count T ≤ first_wrong_face T) where
          pub at_a_door : {i : ℕ} → i ≡ first_wrong_door T ds → i < length ds → Err (Door i) ≡ checked_cells cs T ds
          unfolding checked_cells
          at_a_door {i} e h =
              let k : first_wrong_door T ds < length ds = rw e at h in
              simp (in_size, le-ltb _ _ corners, le-ltb _ _ cells, le-ltb _ _ faces, lt-ltb _ _ k, e)

          module _ (doors : length ds ≤ first_wrong_door T ds) where
            pub at_an_overlap : {i : ℕ} → i ≡ first_overlapping cs T → i < cell_count T → Err (Overlap i) ≡ checked_cells cs T ds
            unfolding checked_cells
            at_an_overlap {i} e h =
                let k : first_overlapping cs T < cell_count T = rw e at h in
                simp (in_size, le-ltb _ _ corners, le-ltb _ _ cells, le-ltb _ _ faces, le-ltb _ _ doors, lt-ltb _ _ k, e)

            pub accepted : cell_count T ≤ first_overlapping cs T → Ok (record { corners = corner_count cs; cells = cell_count T; doors = length ds }) ≡ checked_cells cs T ds
            unfolding checked_cells
            accepted h =
                simp (in_size, le-ltb _ _ corners, le-ltb _ _ cells, le-ltb _ _ faces, le-ltb _ _ doors, le-ltb _ _ h)

-- Boxes that hold boxes, and the box of a cell, corner by corner.
use mathlib.Core.List.{List}
use mathlib.Core.Path.{◌≡◌, sym, subst}
use Prim.Native.Nat.{ℕ, suc, ◌+◌, ◌≤◌, ◌<◌}
use native.Mathlib.Decide.{dec_lt}
use native.Mathlib.Omega.{arith}
use lib.IntN.{ℤ}
use Rattle.plane.specs.Side.{Point}
use Rattle.cells.specs.Lists.{Cells, corner_count, corner_at, cell_count, first, start}
use Rattle.cells.specs.Sound.{Numbered, CornersExist}
use Rattle.cells.proofs.Faces.{SideOf, side_exists}
use Rattle.boxes.specs.Boxes.{Holds, Wider}
use Rattle.boxes.specs.declared.Bounds.{Bounds}
use Rattle.boxes.proofs.Numbers.{at_most_then}

-- a box that holds a box holds what it holds
pub wider_holds : {b a : Bounds} {p : Point} → Wider b a → Holds a p → Holds b p
wider_holds w h =
    record {
      not_left = at_most_then w.left h.not_left;
      not_right = at_most_then h.not_right w.right;
      not_below = at_most_then w.low h.not_below;
      not_above = at_most_then h.not_above w.high;
    }

-- ---- the corners of a cell

module _ {T : Cells} (N : Numbered T) {c : ℕ} (h : c < cell_count T) where
  pub first_side : {f : ℕ} → f ≡ first T c → SideOf T c f
  first_side e = record { not_before = omega (arith, e); not_after = omega (arith, e, N.at_least c h) }

  pub corner_there : {cs : List ℤ} → CornersExist cs T → {f i : ℕ} → SideOf T c f → i ≡ start T f → i < corner_count cs
  corner_there {cs} C {f} s e = subst (λ (i : ℕ). i < corner_count cs) (sym e) (C.exists f (side_exists N h s))

-- a loop over the sides of cell c, before face to, has come to f: the box holds the corners before
pub record Holding (cs : List ℤ) (T : Cells) (c to : ℕ) (r : Bounds) (f : ℕ) : Type 0 where
  pub ends : to ≡ first T (suc c)
  pub begun : first T c ≤ f
  pub so_far : (g : ℕ) → first T c ≤ g → g < f → Holds r (corner_at cs (start T g))

module _ {cs : List ℤ} {T : Cells} {c to : ℕ} {r : Bounds} where
  module _ {f : ℕ} (l : Holding cs T c to r f) where
    pub holding_at : f < to → SideOf T c f
    holding_at k = record { not_before = l.begun; not_after = omega (arith, l.ends) }

    pub holding_goes_on : {j : ℕ} {one r' : Bounds} → j ≡ start T f → Holds one (corner_at cs j) → Wider r' r → Wider r' one → Holding cs T c to r' (f + 1)
    holding_goes_on {j} {one} {r'} s h w v = record { ends = l.ends; begun = omega (arith, l.begun); so_far = λ g k m. by_place g k m (dec_lt g f) }
      where
        by_place : (g : ℕ) → first T c ≤ g → g < f + 1 → Dec (g < f) → Holds r' (corner_at cs (start T g))
        by_place g k m (yes n) = wider_holds w (l.so_far g k n)
        by_place g k m (no n) =
            let same : f ≡ g = omega arith in
            subst (λ (g : ℕ). Holds r' (corner_at cs (start T g))) same (wider_holds v (subst (λ (j : ℕ). Holds one (corner_at cs j)) s h))

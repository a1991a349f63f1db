-- Right and wrong cells, by what was read of them.
use mathlib.Core.Bool.{Bool, true, false}
use mathlib.Core.List.{List, [], ◌∷◌}
use mathlib.Core.Path.{◌≡◌, sym, subst}
use Prim.Native.Nat.{ℕ, suc, ◌≤◌, ◌<◌}
use native.Mathlib.Omega.{arith}
use lib.IntN.{ℤ, pos}
use lib.Signed.{lt_z}
use Rattle.plane.specs.Side.{point, side, Near, AllNear}
use Rattle.cells.specs.Lists.{Cells, corner_at, corner_count, cell_count, first, start}
use Rattle.cells.specs.Check.{some_face, missing_corner, wrong_side, wrong_cell}
use Rattle.cells.specs.Sound.{Numbered, CornersNear}
use Rattle.cells.proofs.Faces.{SideOf, no_face}
use Rattle.cells.proofs.Cells.{not_missing}

-- ---- a face from the first of a cell on and before its end, by what was read of them

pub side_from : {T : Cells} {c a b f : ℕ} → a ≡ first T c → b ≡ first T (suc c) → a ≤ f → f < b → SideOf T c f
side_from is_a is_b h l = record { not_before = omega arith; not_after = omega arith }

-- ---- three corners, by what was read of them

module _ (cs : List ℤ) (a b d : ℕ) (p q r : List ℤ) (is_p : point p ≡ corner_at cs a) (is_q : point q ≡ corner_at cs b) (is_r : point r ≡ corner_at cs d) where
  pub corners_near : CornersNear cs → a < corner_count cs → b < corner_count cs → d < corner_count cs → AllNear (p ∷ q ∷ r ∷ [])
  corners_near n h k l =
      record {
        near₀ = subst Near (sym is_p) (n.near a h);
        near₁ = subst Near (sym is_q) (n.near b k);
        near₂ = subst Near (sym is_r) (n.near d l);
      }

  pub left_by_points : {t : Bool} → t ≡ lt_z (pos 0) (side (point p) (point q) (point r)) → t ≡ lt_z (pos 0) (side (corner_at cs a) (corner_at cs b) (corner_at cs d))
  left_by_points e = rw (← is_p, ← is_q, ← is_r) e

-- ---- a cell all of whose corner numbers exist

module _ (cs : List ℤ) {T : Cells} (N : Numbered T) {c : ℕ} (h : c < cell_count T) (there : some_face T c (missing_corner cs T) ≡ false) where
  pub corner_there : {f a : ℕ} → SideOf T c f → a ≡ start T f → a < corner_count cs
  corner_there {f} s e = subst (λ (i : ℕ). i < corner_count cs) (sym e) (not_missing cs T f (no_face N h _ there s))

  pub wrong_by_its_sides : some_face T c (wrong_side cs T c) ≡ wrong_cell cs T c
  unfolding wrong_cell
  wrong_by_its_sides = simp there

pub wrong_by_a_number : (cs : List ℤ) (T : Cells) (c : ℕ) → some_face T c (missing_corner cs T) ≡ true → true ≡ wrong_cell cs T c
unfolding wrong_cell
wrong_by_a_number cs T c h = simp h

-- Two cells, by what was read of them: cut off by a line, separated by a side, overlapping.
use mathlib.Core.Bool.{Bool, true, false, not, ◌&&◌}
use mathlib.Core.List.{List}
use mathlib.Core.Path.{◌≡◌, refl, sym, ap, ◌∙◌, subst}
use Prim.Native.Nat.{ℕ, suc, ◌<◌}
use native.Mathlib.Omega.{arith}
use borrow.Author.Tests.{eq-eqb, ltb-true}
use lib.Dec.{ltb}
use lib.IntN.{ℤ, pos}
use lib.Signed.{lt_z}
use Rattle.plane.specs.Side.{Point, side, Near}
use Rattle.std.specs.Prelude.{Option, Some, None, is_some}
use Rattle.cells.specs.Least.{least, before}
use Rattle.cells.specs.Lists.{Cells, corner_at, corner_count, cell_count, face_count, first, side_count, start}
use Rattle.cells.specs.Check.{some_face, strictly_left, separates, overlapping}
use Rattle.cells.proofs.Least.{least_bounds}
use Rattle.cells.specs.Sound.{Numbered}
use Rattle.cells.proofs.Faces.{SideOf, a_face, at_no_face}
use Rattle.cells.proofs.Plans.{corner_exists}
use Rattle.apart.proofs.Test.{overlap_differs, none_separates}
use Rattle.overlap.specs.Search.{Ready, cut_off, EndsOf}

-- ---- the corner at which a face starts

module _ {cs : List ℤ} {T : Cells} (R : Ready cs T) {f i : ℕ} (h : f < face_count T) (is_i : i ≡ start T f) where
  pub corner_there : i < corner_count cs
  corner_there = rw is_i (corner_exists R.numbered R.right f h)

  pub corner_near : {p : Point} → p ≡ corner_at cs i → Near p
  corner_near is_p = subst Near (sym is_p) (R.near.near i corner_there)

-- ---- a line, and the corners of a cell

-- the corner at which face g starts is strictly left of the line from a to b
abbrev pub left_of : List ℤ → Cells → Point → Point → ℕ → Bool
left_of cs T a b g = lt_z (pos 0) (side a b (corner_at cs (start T g)))

-- a cell is cut off where no corner of it is left of the line
module _ (cs : List ℤ) {T : Cells} (N : Numbered T) {e : ℕ} (h : e < cell_count T) (a b : Point) where
  pub a_corner_left : {g : ℕ} → SideOf T e g → left_of cs T a b g ≡ true → false ≡ cut_off cs T a b e
  unfolding cut_off
  a_corner_left s is_left = ap not (sym (a_face N h (left_of cs T a b) s is_left))

  pub no_corner_left : ((g : ℕ) → SideOf T e g → left_of cs T a b g ≡ false) → true ≡ cut_off cs T a b e
  unfolding cut_off
  no_corner_left none_left = ap not (sym (at_no_face N h (left_of cs T a b) none_left))

-- a side separates its cell from those that its line cuts off
pub separates_by_ends : {cs : List ℤ} {T : Cells} {f : ℕ} {a b : Point} → EndsOf cs T f a b → (e : ℕ) → cut_off cs T a b e ≡ separates cs T e f
unfolding cut_off separates strictly_left
separates_by_ends E e = rw (E.from, E.towards)

-- ---- the first side of cell c that separates it from cell e

is_before : (n i : ℕ) → is_some (before n i) ≡ ltb i n
is_before n i = by_test (ltb i n)
  where
    by_test : (b : Bool) → is_some (elim b as (λ _. Option ℕ) [ true ↦ Some i | false ↦ None ]) ≡ b
    by_test true = refl
    by_test false = refl

before_it : (n i : ℕ) {j : ℕ} → before n i ≡ Some j → (j ≡ i) × (i < n)
before_it n i {j} = by_test (ltb i n) refl
  where
    by_test : (b : Bool) → ltb i n ≡ b → elim b as (λ _. Option ℕ) [ true ↦ Some i | false ↦ None ] ≡ Some j → (j ≡ i) × (i < n)
    by_test true t e = (cc, ltb-true i n t)
    by_test false t e = absurd cc

module _ (cs : List ℤ) (T : Cells) (c e : ℕ) {r : Option ℕ} (is_r : r ≡ before (first T (suc c)) (least (separates cs T e) (side_count T c) (first T c))) where
  pub whether_separated : is_some r ≡ some_face T c (separates cs T e)
  unfolding some_face
  whether_separated = rw is_r (is_before _ _)

  pub it_is_a_side : {f : ℕ} → r ≡ Some f → SideOf T c f
  it_is_a_side found =
      let it = before_it _ _ (sym is_r ∙ found) in
      record { not_before = omega (arith, it.0, least_bounds (separates cs T e) (side_count T c) (first T c)); not_after = omega (arith, it.0, it.1) }

-- ---- two cells that overlap, or do not

and_false : (t : Bool) → (t && false) ≡ false
and_false true = refl
and_false false = refl

module _ (cs : List ℤ) (T : Cells) (c e : ℕ) where
  -- no cell overlaps itself
  pub not_itself : c ≡ e → overlapping cs T c e ≡ false
  unfolding overlapping
  not_itself h = simp (eq-eqb c e h)

  -- nor one from which a side of either separates it
  pub separated : some_face T c (separates cs T e) ≡ true → overlapping cs T c e ≡ false
  unfolding overlapping
  separated h = simp (h, and_false)

  pub separated_back : some_face T e (separates cs T c) ≡ true → overlapping cs T c e ≡ false
  unfolding overlapping
  separated_back h = simp (h, and_false)

-- whichever of the two is named first
pub overlap_back : (cs : List ℤ) (T : Cells) (c e : ℕ) → overlapping cs T c e ≡ true → overlapping cs T e c ≡ true
overlap_back cs T c e over =
    let d = overlap_differs cs T c e over in
    none_separates cs T e c (λ same. d.0 (sym same)) d.1.1 d.1.0

-- the line of a side of cell c cuts off no cell that c overlaps
pub cut_off_apart : {cs : List ℤ} {T : Cells} → Ready cs T → {c f : ℕ} {a b : Point} → c < cell_count T → SideOf T c f → EndsOf cs T f a b → (e : ℕ) → cut_off cs T a b e ≡ true → overlapping cs T c e ≡ false
cut_off_apart {cs} {T} R {c} h s E e is_off =
    separated cs T c e (a_face R.numbered h (separates cs T e) s (sym (separates_by_ends E e) ∙ is_off))

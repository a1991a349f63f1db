-- Boxes and overlapping cells: a point strictly inside a cell is strictly inside its box, so the boxes of overlapping cells meet strictly, and both cells
-- reach to one side of every line.
use mathlib.Core.Bool.{Bool, true, false}
use mathlib.Core.List.{List, [], ◌∷◌}
use mathlib.Core.Logic.{◌⊎◌, inl, inr}
use mathlib.Core.Path.{◌≡◌, refl}
use Prim.Native.Nat.{ℕ, ◌<◌}
use lib.IntN.{ℤ, pos, ◌*ℤ◌}
use lib.Signed.{◌<ℤ◌, ◌≤ℤ◌}
use Rattle.exact.proofs.Order.{𝟘, lt_ltZ, less_or_not}
use Rattle.exact.proofs.Solver.{◌⊗◌}
use Rattle.exact.proofs.Solver.Expr.{var, lit}
use Rattle.exact.proofs.Certificate.{prove, ◌≺◌, ◌≼◌, ◌⊞◌, ◌⊠◌}
use Rattle.exact.proofs.Certificate.Cert.{given, number}
use Rattle.exact.proofs.Certificate.Proof.{only}
use Rattle.plane.proofs.Quote.{𝟘ᵉ}
use Rattle.cells.specs.Lists.{Cells, cell_count}
use Rattle.cells.specs.Check.{overlapping}
use Rattle.cells.proofs.Least.{not_both}
use Rattle.apart.proofs.Test.{told_is_overlap}
use Rattle.boxes.specs.Boxes.{box_at, Boxed, meeting}
use Rattle.boxes.specs.Parts.{reaching}
use Rattle.boxes.specs.declared.Bounds.{Bounds}
use Rattle.boxes.proofs.Inside.{Within, strictly_in_its_box}
use Rattle.overlap.specs.Search.{Ready}

-- ---- two cells that overlap

-- what is over one number and under another, each times w
across : (a b z w : ℤ) → 𝟘 <ℤ w → (a *ℤ w) <ℤ z → z <ℤ (b *ℤ w) → a <ℤ b
across a b z w =
    prove (a ∷ b ∷ z ∷ w ∷ []) ((𝟘ᵉ ≺ var 3) ∷ (var 0 ⊗ var 3 ≺ var 2) ∷ (var 2 ≺ var 1 ⊗ var 3) ∷ []) (var 0 ≺ var 1) (only (given 1 ⊠ given 0 ⊞ given 2 ⊞ given 3)) tt

-- their boxes meet strictly: each begins before either ends
pub record Meet (a b : Bounds) : Type 0 where
  pub left_right : a.left <ℤ b.right
  pub low_high : a.low <ℤ b.high

within_both : {a b : Bounds} {x y w : ℤ} → 𝟘 <ℤ w → Within a x y w → Within b x y w → Meet a b
within_both {a} {b} {x} {y} {w} positive i j =
    record {
      left_right = across a.left b.right x w positive i.right_of j.left_of;
      low_high = across a.low b.high y w positive i.above j.below;
    }

meets : {a b : Bounds} → Meet a b → Meet b a → meeting a b ≡ true
unfolding meeting
meets u v = simp (lt_ltZ u.left_right, lt_ltZ v.left_right, lt_ltZ u.low_high, lt_ltZ v.low_high)

module _ {cs : List ℤ} {T : Cells} (R : Ready cs T) {bs : List ℤ} (boxed : Boxed cs T bs) (c e : ℕ) (h : c < cell_count T) (k : e < cell_count T) where
  pub overlap_meets : overlapping cs T c e ≡ true → (Meet (box_at bs c) (box_at bs c) × Meet (box_at bs c) (box_at bs e)) × (Meet (box_at bs e) (box_at bs c) × Meet (box_at bs e) (box_at bs e))
  overlap_meets t =
      let o = told_is_overlap cs R.numbered R.right h k t in
      let i = strictly_in_its_box cs R.numbered h (boxed.each c h) o.positive o.in_one in
      let j = strictly_in_its_box cs R.numbered k (boxed.each e k) o.positive o.in_other in
      ((within_both o.positive i i, within_both o.positive i j), (within_both o.positive j i, within_both o.positive j j))

  -- so cells whose boxes do not meet strictly do not overlap
  pub boxes_apart : meeting (box_at bs c) (box_at bs e) ≡ false → overlapping cs T c e ≡ false
  boxes_apart m = by_test (overlapping cs T c e) refl
    where
      by_test : (b : Bool) → overlapping cs T c e ≡ b → overlapping cs T c e ≡ false
      by_test false t = t
      by_test true t = let m' = overlap_meets t in absurd (not_both (meets m'.0.1 m'.1.0) m)

-- ---- to which side of a line they reach

-- two begin before the line at half of s; two end beyond it
abbrev BothBefore : ℤ → ℤ → ℤ → Type 0
BothBefore s a a' = ((pos 2 *ℤ a) <ℤ s) × ((pos 2 *ℤ a') <ℤ s)

abbrev BothBeyond : ℤ → ℤ → ℤ → Type 0
BothBeyond s b b' = (s <ℤ (pos 2 *ℤ b)) × (s <ℤ (pos 2 *ℤ b'))

-- of two intervals that meet strictly, both begin before a line or both end beyond it
one_side : (s a b a' b' : ℤ) → a <ℤ b → a <ℤ b' → a' <ℤ b → a' <ℤ b' → BothBefore s a a' ⊎ BothBeyond s b b'
one_side s a b a' b' h k l m = by_test (less_or_not (pos 2 *ℤ a) s) (less_or_not (pos 2 *ℤ a') s)
  where
    on : (z u : ℤ) → s ≤ℤ (pos 2 *ℤ z) → z <ℤ u → s <ℤ (pos 2 *ℤ u)
    on z u = prove (s ∷ z ∷ u ∷ []) ((var 0 ≼ lit (pos 2) ⊗ var 1) ∷ (var 1 ≺ var 2) ∷ []) (var 0 ≺ lit (pos 2) ⊗ var 2) (only (given 0 ⊞ given 1 ⊞ number 1 ⊠ given 2)) tt

    by_test : (((pos 2 *ℤ a) <ℤ s) ⊎ (s ≤ℤ (pos 2 *ℤ a))) → (((pos 2 *ℤ a') <ℤ s) ⊎ (s ≤ℤ (pos 2 *ℤ a'))) → BothBefore s a a' ⊎ BothBeyond s b b'
    by_test (inl u) (inl v) = inl (u, v)
    by_test (inl u) (inr v) = inr (on a' b v l, on a' b' v m)
    by_test (inr u) v = inr (on a b u h, on a b' u k)

-- a box that begins before the line reaches to the side before it, one that ends beyond it to the side beyond
module _ (b : Bounds) (s : ℤ) where
  reaches_before_x : (pos 2 *ℤ b.left) <ℤ s → reaching b (record { upright = true; twice = s; beyond = false }) ≡ true
  unfolding reaching
  reaches_before_x h = lt_ltZ h

  reaches_beyond_x : s <ℤ (pos 2 *ℤ b.right) → reaching b (record { upright = true; twice = s; beyond = true }) ≡ true
  unfolding reaching
  reaches_beyond_x h = lt_ltZ h

  reaches_before_y : (pos 2 *ℤ b.low) <ℤ s → reaching b (record { upright = false; twice = s; beyond = false }) ≡ true
  unfolding reaching
  reaches_before_y h = lt_ltZ h

  reaches_beyond_y : s <ℤ (pos 2 *ℤ b.high) → reaching b (record { upright = false; twice = s; beyond = true }) ≡ true
  unfolding reaching
  reaches_beyond_y h = lt_ltZ h

-- both boxes reach to one side of the line
abbrev pub OneSide : Bounds → Bounds → Bool → ℤ → Type 0
OneSide a b u s =
    ((reaching a (record { upright = u; twice = s; beyond = false }) ≡ true) × (reaching b (record { upright = u; twice = s; beyond = false }) ≡ true))
    ⊎ ((reaching a (record { upright = u; twice = s; beyond = true }) ≡ true) × (reaching b (record { upright = u; twice = s; beyond = true }) ≡ true))

pub on_one_side : (a b : Bounds) (u : Bool) (s : ℤ) → Meet a a → Meet a b → Meet b a → Meet b b → OneSide a b u s
on_one_side a b true s h k l m = by_side (one_side s a.left a.right b.left b.right h.left_right k.left_right l.left_right m.left_right)
  where
    by_side : BothBefore s a.left b.left ⊎ BothBeyond s a.right b.right → OneSide a b true s
    by_side (inl r) = inl (reaches_before_x a s r.0, reaches_before_x b s r.1)
    by_side (inr r) = inr (reaches_beyond_x a s r.0, reaches_beyond_x b s r.1)
on_one_side a b false s h k l m = by_side (one_side s a.low a.high b.low b.high h.low_high k.low_high l.low_high m.low_high)
  where
    by_side : BothBefore s a.low b.low ⊎ BothBeyond s a.high b.high → OneSide a b false s
    by_side (inl r) = inl (reaches_before_y a s r.0, reaches_before_y b s r.1)
    by_side (inr r) = inr (reaches_beyond_y a s r.0, reaches_beyond_y b s r.1)

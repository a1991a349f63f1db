-- The table of boxes: what a run of stores keeps and leaves, and one more box in it.
use mathlib.Core.List.{List, [], ◌∷◌}
use mathlib.Core.Path.{◌≡◌, refl, sym, ap, ◌∙◌, subst}
use Prim.Native.Nat.{ℕ, zero, suc, ◌+◌, ◌*◌, ◌≤◌, ◌<◌}
use native.Mathlib.Decide.{dec_lt}
use native.Mathlib.Nat.{add-zero}
use native.Mathlib.Omega.{arith}
use lib.IntN.{ℤ, pos}
use lib.ListN.{length, get_or, set, length-set}
use lib.Seq.{sets, length-sets, get_or-set_same, get_or-set_other}
use Rattle.cells.specs.Lists.{Cells, cell_count}
use Rattle.boxes.specs.Boxes.{HoldsCell, box_at, BoxedBelow}
use Rattle.boxes.specs.declared.Bounds.{Bounds}
use Rattle.boxes.proofs.Numbers.{Fits32, back, same}

-- ---- a run of stores

module _ {A : Type 0} where
  -- what lies before the first store is kept
  kept_before : (vs l : List A) (i j : ℕ) (d : A) → j < i → get_or (sets l i vs) j d ≡ get_or l j d
  kept_before [] l i j d h = refl
  kept_before (v ∷ vs) l i j d h = kept_before vs (set l i v) (suc i) j d (omega arith) ∙ get_or-set_other l i j v d (λ e. omega (arith, e))

  -- what was stored stands there
  stands : (vs l : List A) (i k : ℕ) (d : A) → i + length vs ≤ length l → k < length vs → get_or (sets l i vs) (i + k) d ≡ get_or vs k d
  stands [] l i k d h m = absurd (omega arith)
  stands (v ∷ vs) l i zero d h m =
      ap (λ (n : ℕ). get_or (sets (set l i v) (suc i) vs) n d) (add-zero i)
      ∙ kept_before vs (set l i v) (suc i) i d (omega arith)
      ∙ get_or-set_same l i v d (omega arith)
  stands (v ∷ vs) l i (suc k) d h m =
      let next : i + suc k ≡ suc i + k = omega arith in
      ap (λ (n : ℕ). get_or (sets (set l i v) (suc i) vs) n d) next
      ∙ stands vs (set l i v) (suc i) k d (omega (arith, length-set l i v)) (omega arith)

-- ---- a box in the table

-- the four numbers of a box
abbrev pub four : Bounds → List ℤ
four b = b.left ∷ b.right ∷ b.low ∷ b.high ∷ []

-- four stores, one behind the other, of numbers that were read back
pub four_stored : (l : List ℤ) (i : ℕ) (b : Bounds) → Fits32 b.left → Fits32 b.right → Fits32 b.low → Fits32 b.high → set (set (set (set l i (back b.left)) (i + 1) (back b.right)) (i + 2) (back b.low)) (i + 3) (back b.high) ≡ sets l i (four b)
four_stored l i b e f g h =
    let one : i + 1 ≡ suc i = omega arith in
    let two : i + 2 ≡ suc (suc i) = omega arith in
    let three : i + 3 ≡ suc (suc (suc i)) = omega arith in
    rw (same b.left e, same b.right f, same b.low g, same b.high h, one, two, three) refl

-- the boxes of cells before c are kept
box_kept : (l : List ℤ) (c d : ℕ) (b : Bounds) → d < c → box_at (sets l (4 * c) (four b)) d ≡ box_at l d
box_kept l c d b h =
    let kept : (k : ℕ) → k < 4 * c → get_or (sets l (4 * c) (four b)) k (pos 0) ≡ get_or l k (pos 0) = λ k m. kept_before (four b) l (4 * c) k (pos 0) m in
    rw (kept (4 * d) (omega arith), kept (4 * d + 1) (omega arith), kept (4 * d + 2) (omega arith), kept (4 * d + 3) (omega arith)) refl

-- the box stored for cell c stands there
box_stands : (l : List ℤ) (c : ℕ) (b : Bounds) → 4 * c + 4 ≤ length l → box_at (sets l (4 * c) (four b)) c ≡ b
box_stands l c b h =
    let at : (k : ℕ) → k < 4 → get_or (sets l (4 * c) (four b)) (4 * c + k) (pos 0) ≡ get_or (four b) k (pos 0) = λ k m. stands (four b) l (4 * c) k (pos 0) h m in
    let at_0 : get_or (sets l (4 * c) (four b)) (4 * c) (pos 0) ≡ b.left = ap (λ (n : ℕ). get_or (sets l (4 * c) (four b)) n (pos 0)) (sym (add-zero (4 * c))) ∙ at 0 (omega arith) in
    rw (at_0, at 1 (omega arith), at 2 (omega arith), at 3 (omega arith)) refl

-- ---- the boxes noted so far

module _ {cs : List ℤ} {T : Cells} where
  pub one_more_boxed : {c : ℕ} {bs bs' : List ℤ} {b : Bounds} → BoxedBelow cs T c bs → c < cell_count T → HoldsCell cs T c b → bs' ≡ sets bs (4 * c) (four b) → BoxedBelow cs T (c + 1) bs'
  one_more_boxed {c} {bs} {bs'} {b} B h H e =
      record { room = omega (arith, B.room, ap length e, length-sets bs (4 * c) (four b)); each = λ d k. by_place d k (dec_lt d c) }
    where
      at : (d : ℕ) → box_at (sets bs (4 * c) (four b)) d ≡ box_at bs' d
      at d = ap (λ (l : List ℤ). box_at l d) (sym e)

      by_place : (d : ℕ) → d < c + 1 → Dec (d < c) → HoldsCell cs T d (box_at bs' d)
      by_place d k (yes m) = subst (HoldsCell cs T d) (sym (box_kept bs c d b m) ∙ at d) (B.each d m)
      by_place d k (no m) =
          let same_cell : c ≡ d = omega arith in
          subst (λ (d : ℕ). HoldsCell cs T d (box_at bs' d)) same_cell (subst (HoldsCell cs T c) (sym (box_stands bs c b (omega (arith, B.room))) ∙ at c) H)

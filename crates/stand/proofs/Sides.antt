-- The loop over the sides of a cell, which takes the least of their side values: what holds after each side, and what follows after the last.
use mathlib.Core.List.{List, [], ◌∷◌}
use mathlib.Core.Logic.{◌⊎◌, inl, inr}
use mathlib.Core.Path.{◌≡◌, sym, ◌∙◌, ap, ap₂, subst}
use Prim.Native.Nat.{ℕ, suc, ◌+◌, ◌^◌, ◌<◌, ◌≤◌}
use native.Mathlib.Numerals.{add-one}
use native.Mathlib.Decide.{dec_lt}
use native.Mathlib.Omega.{arith}
use lib.IntN.{ℤ}
use lib.Signed.{mag, ◌<ℤ◌, ◌≤ℤ◌, ≤ℤ_refl, <ℤ-≤ℤ_trans}
use mir.Syntax.{w64}
use mir.Val.{to_z, of_z}
use Rattle.exact.proofs.Bounds.{handed}
use Rattle.exact.proofs.Order.{lt_ltZ, le_ltZ, less_or_not, less_is_at_most}
use Rattle.plane.specs.Side.{Point, point, side, Near, AllNear}
use Rattle.cells.specs.Lists.{Cells, corner_at, cell_count, first, next, start}
use Rattle.cells.specs.Sound.{CornersNear, CornersExist, Numbered}
use Rattle.cells.proofs.Faces.{SideOf, side_exists, next_goes_on, next_comes_round, next_is_a_side}
use Rattle.stand.specs.Find.{side_value_at}
use Rattle.stand.proofs.Against.{LeastSide}
use Rattle.std.specs.Int.{int_min}

-- ---- the least of the side values of the sides before f

pub record LeastBefore (cs : List ℤ) (T : Cells) (q : Point) (c f : ℕ) (least : ℤ) : Type 0 where
  pub at_most : (g : ℕ) → first T c ≤ g → g < f → least ≤ℤ side_value_at cs T q g
  pub is_one : (g : ℕ) × SideOf T c g × (side_value_at cs T q g ≡ least)

-- the lesser of two
lesser_is : (a b : ℤ) → ((int_min a b ≡ a) × (a ≤ℤ b)) ⊎ ((int_min a b ≡ b) × (b <ℤ a))
lesser_is a b = by_order (less_or_not b a)
  where
    by_order : (b <ℤ a) ⊎ (a ≤ℤ b) → ((int_min a b ≡ a) × (a ≤ℤ b)) ⊎ ((int_min a b ≡ b) × (b <ℤ a))
    by_order (inl k) = inr (simp (lt_ltZ k), k)
    by_order (inr k) = inl (simp (le_ltZ k), k)

module _ {cs : List ℤ} {T : Cells} {q : Point} {c f : ℕ} {least : ℤ} (l : LeastBefore cs T q c f least) where
  -- with side f besides
  module _ (s : SideOf T c f) {n : ℕ} (is_n : n ≡ suc f) {value : ℤ} (is_value : value ≡ side_value_at cs T q f) where
    below_each : {low : ℤ} → low ≤ℤ value → ((z : ℤ) → least ≤ℤ z → low ≤ℤ z) → (g : ℕ) → first T c ≤ g → g < n → low ≤ℤ side_value_at cs T q g
    below_each {low} k below g a b = by_order (dec_lt g f)
      where
        by_order : Dec (g < f) → low ≤ℤ side_value_at cs T q g
        by_order (yes o) = below _ (l.at_most g a o)
        by_order (no o) =
            let same : f ≡ g = omega arith in
            subst (λ (z : ℤ). low ≤ℤ z) (is_value ∙ ap (side_value_at cs T q) same) k

    pub one_more : {low r : ℤ} → low ≡ r → r ≡ int_min least value → LeastBefore cs T q c n low
    one_more {low} i j = by_order (lesser_is least value)
      where
        by_order : ((int_min least value ≡ least) × (least ≤ℤ value)) ⊎ ((int_min least value ≡ value) × (value <ℤ least)) → LeastBefore cs T q c n low
        by_order (inl (e, k)) = subst (LeastBefore cs T q c n) (sym (i ∙ j ∙ e)) (record { at_most = below_each k (λ z m. m); is_one = l.is_one })
        by_order (inr (e, k)) =
            subst (LeastBefore cs T q c n) (sym (i ∙ j ∙ e))
            (record { at_most = below_each (≤ℤ_refl value) (λ z m. less_is_at_most (<ℤ-≤ℤ_trans k m)); is_one = (f, s, sym is_value) })

  pub after_the_last : first T (suc c) ≤ f → LeastSide cs T q c least
  after_the_last k = record { at_most = λ g s. l.at_most g s.not_before (omega (arith, s.not_after)); is_one = l.is_one }

-- ---- side f of cell c, from where it starts to where the next side starts

pub record Ends (cs : List ℤ) (T : Cells) (c f : ℕ) (from to : List ℤ) : Type 0 where
  pub here : SideOf T c f
  pub from_there : point from ≡ corner_at cs (start T f)
  pub to_there : point to ≡ corner_at cs (start T (next T f))

module _ {cs : List ℤ} {T : Cells} {c f : ℕ} {from to : List ℤ} (e : Ends cs T c f from to) where
  pub ends_near : Numbered T → c < cell_count T → CornersNear cs → CornersExist cs T → {p : List ℤ} → Near (point p) → AllNear (from ∷ to ∷ p ∷ [])
  ends_near N h near exist is_near =
      record {
        near₀ = subst Near (sym e.from_there) (near.near _ (exist.exists f (side_exists N h e.here)));
        near₁ = subst Near (sym e.to_there) (near.near _ (exist.exists (next T f) (side_exists N h (next_is_a_side N h e.here))));
        near₂ = is_near;
      }

  -- the side value as the code reads it
  pub value_read : (q : Point) {r : ℤ} → mag r < 2 ^ 63 → r ≡ side (point from) (point to) q → to_z w64 (of_z w64 r) ≡ side_value_at cs T q f
  value_read q ok r = handed w64 ok (r ∙ ap₂ (λ (a b : Point). side a b q) e.from_there e.to_there)

-- the side before n starts at `from`, and the sides before that are passed
pub record Passed (cs : List ℤ) (T : Cells) (q : Point) (c n : ℕ) (from : List ℤ) (least : ℤ) : Type 0 where
  pub side : ℕ
  pub is_after : n ≡ suc side
  pub here : SideOf T c side
  pub from_there : point from ≡ corner_at cs (start T side)
  pub so_far : LeastBefore cs T q c side least

-- ---- the sides that the code reads: the first three, from a on

module _ {T : Cells} (N : Numbered T) {c : ℕ} (h : c < cell_count T) {a : ℕ} (is_a : a ≡ first T c) where
  pub first_is_a_side : SideOf T c a
  first_is_a_side = record { not_before = omega arith; not_after = omega (arith, N.at_least c h) }

  pub second_is_a_side : SideOf T c (a + 1)
  second_is_a_side = record { not_before = omega arith; not_after = omega (arith, N.at_least c h) }

  pub third_is_a_side : SideOf T c (a + 2)
  third_is_a_side = record { not_before = omega arith; not_after = omega (arith, N.at_least c h) }

module _ (cs : List ℤ) {T : Cells} (N : Numbered T) {c : ℕ} (h : c < cell_count T) where
  -- a side that is not the last ends where the side after it starts
  goes_on : {f n : ℕ} {p : Point} → SideOf T c f → n ≡ suc f → n < first T (suc c) → p ≡ corner_at cs (start T n) → p ≡ corner_at cs (start T (next T f))
  goes_on {f} {n} s is_n k e = e ∙ ap (λ (g : ℕ). corner_at cs (start T g)) (is_n ∙ sym (next_goes_on N h s (omega arith)))

module _ {cs : List ℤ} {T : Cells} (N : Numbered T) {c : ℕ} (h : c < cell_count T) where
  module _ {a : ℕ} (is_a : a ≡ first T c) where
    pub first_side : (begin second : List ℤ) → point begin ≡ corner_at cs (start T a) → point second ≡ corner_at cs (start T (a + 1)) → Ends cs T c a begin second
    first_side begin second p r =
        let s = first_is_a_side N h is_a in
        record { here = s; from_there = p; to_there = goes_on cs N h s (add-one _) (second_is_a_side N h is_a).not_after r }

    pub second_side : (second third : List ℤ) → point second ≡ corner_at cs (start T (a + 1)) → point third ≡ corner_at cs (start T (a + 2)) → Ends cs T c (a + 1) second third
    second_side second third p r =
        let s = second_is_a_side N h is_a in
        record { here = s; from_there = p; to_there = goes_on cs N h s (omega arith) (third_is_a_side N h is_a).not_after r }

    -- after the first side
    pub begins : {q : Point} {value : ℤ} → value ≡ side_value_at cs T q a → LeastBefore cs T q c (a + 1) value
    begins {q} {value} is_value =
        record {
          at_most = λ g l m.
              let same : a ≡ g = omega arith in
              subst (λ (z : ℤ). value ≤ℤ z) (is_value ∙ ap (side_value_at cs T q) same) (≤ℤ_refl value);
          is_one = (a, first_is_a_side N h is_a, sym is_value);
        }

  -- the loop's sides, up to the last
  module _ {q : Point} {n : ℕ} {from : List ℤ} {least : ℤ} (p : Passed cs T q c n from least) {b : ℕ} (is_b : b ≡ first T (suc c)) where
    pub still_a_side : n < b → SideOf T c n
    still_a_side k = record { not_before = omega (arith, p.is_after, p.here.not_before); not_after = omega arith }

    pub further_side : (to : List ℤ) → n < b → point to ≡ corner_at cs (start T n) → Ends cs T c p.side from to
    further_side to k r = record { here = p.here; from_there = p.from_there; to_there = goes_on cs N h p.here p.is_after (omega arith) r }

    pub at_the_end : b ≤ n → first T (suc c) ≤ n
    at_the_end k = omega arith

    -- the last side ends where the first starts
    pub last_side : (begin : List ℤ) {a : ℕ} → a ≡ first T c → b ≤ n → point begin ≡ corner_at cs (start T a) → Ends cs T c p.side from begin
    last_side begin is_a k r =
        let round : next T p.side ≡ first T c = next_comes_round N h p.here (omega (arith, p.is_after, p.here.not_after)) in
        record { here = p.here; from_there = p.from_there; to_there = r ∙ ap (λ (g : ℕ). corner_at cs (start T g)) (is_a ∙ sym round) }

-- A right cell is a convex shape whose sides go round.
use mathlib.Core.Bool.{true, false}
use mathlib.Core.List.{List, [], ◌∷◌}
use mathlib.Core.Logic.{◌⊎◌, inl, inr}
use mathlib.Core.Path.{◌≡◌, sym, ◌∙◌, ap, subst}
use Prim.Native.Nat.{ℕ, suc, ◌+◌, ◌-◌, ◌<◌, ◌≤◌}
use native.Mathlib.Decide.{ℕ_discrete, dec_lt}
use native.Mathlib.Omega.{arith}
use borrow.Author.Tests.{lt-ltb, le-ltb}
use lib.Dec.{ltb}
use lib.IntN.{ℤ, pos, ◌+ℤ◌, +ℤ_comm}
use lib.Signed.{◌<ℤ◌, ◌≤ℤ◌, lt_z_yes, le_z_yes}
use Rattle.exact.proofs.Order.{𝟘, less_is_at_most, positive_sum, not_negative_sum}
use Rattle.exact.proofs.Solver.{solve, ◌⊕◌}
use Rattle.exact.proofs.Solver.Expr.{var, lit}
use Rattle.exact.proofs.Certificate.{prove, ◌≺◌, ◌⊞◌, ◌⊠◌}
use Rattle.exact.proofs.Certificate.Cert.{given, number}
use Rattle.exact.proofs.Certificate.Proof.{only}
use Rattle.plane.specs.Side.{Point, side}
use Rattle.plane.specs.Cone.{scaled}
use Rattle.plane.proofs.Quote.{coordinates, pt, 𝟘ᵉ, scaledᵉ, sideᵉ}
use Rattle.convex.specs.Shape.{Shape, Convex, Round}
use Rattle.cells.specs.Lists.{Cells, cell_count, first, side_count, next}
use Rattle.cells.specs.Sound.{Numbered, CellsRight}
use Rattle.cells.proofs.Faces.{SideOf, side_exists, home_is, next_goes_on, next_comes_round}
use Rattle.cells.proofs.Cells.{at}
use Rattle.cells.proofs.Plans.{convex}

-- ---- the corners of a cell, by their place in it

-- the face at place i of cell c; after the last the first
unfoldable pub face_at : Cells → ℕ → ℕ → ℕ
face_at T c i = elim (ltb i (side_count T c)) [ true ↦ first T c + i | false ↦ first T c ]

unfoldable pub shape : List ℤ → Cells → ℕ → Shape
shape cs T c =
    record {
      sides = side_count T c;
      start = λ i. at cs T (face_at T c i);
      finish = λ i. at cs T (next T (face_at T c i));
    }

pub face_before_the_end : (T : Cells) (c : ℕ) {i : ℕ} → i < side_count T c → face_at T c i ≡ first T c + i
unfolding face_at
face_before_the_end T c h = rw (lt-ltb _ _ h, face_at)

face_at_the_end : (T : Cells) (c : ℕ) {i : ℕ} → side_count T c ≤ i → face_at T c i ≡ first T c
unfolding face_at
face_at_the_end T c h = rw (le-ltb _ _ h, face_at)

-- ---- side values of a side's own ends, and of three corners together

no_value_at_the_start : (a b : Point) → side a b a ≡ 𝟘
unfolding side
no_value_at_the_start a b = solve (coordinates (a ∷ b ∷ [])) (sideᵉ (pt 0) (pt 1) (pt 0)) 𝟘ᵉ tt

no_value_at_the_finish : (a b : Point) → side a b b ≡ 𝟘
unfolding side
no_value_at_the_finish a b = solve (coordinates (a ∷ b ∷ [])) (sideᵉ (pt 0) (pt 1) (pt 1)) 𝟘ᵉ tt

no_value_is_not_negative : {z : ℤ} → z ≡ 𝟘 → 𝟘 ≤ℤ z
no_value_is_not_negative e = subst (λ (z : ℤ). 𝟘 ≤ℤ z) (sym e) (le_z_yes tt)

-- the point in the middle of three corners, its coordinates three times as large
abbrev middle : Point → Point → Point → Point
middle p q r = record { x = p.x +ℤ q.x +ℤ r.x; y = p.y +ℤ q.y +ℤ r.y }

left_of_the_middle : (a b p q r : Point) → 𝟘 <ℤ (side a b p +ℤ side a b q +ℤ side a b r) → 𝟘 <ℤ side (scaled (pos 3) a) (scaled (pos 3) b) (middle p q r)
unfolding side scaled
left_of_the_middle a b p q r =
    prove (coordinates (a ∷ b ∷ p ∷ q ∷ r ∷ [])) ((𝟘ᵉ ≺ sideᵉ (pt 0) (pt 1) (pt 2) ⊕ sideᵉ (pt 0) (pt 1) (pt 3) ⊕ sideᵉ (pt 0) (pt 1) (pt 4)) ∷ []) (𝟘ᵉ ≺ sideᵉ (scaledᵉ (lit (pos 3)) (pt 0)) (scaledᵉ (lit (pos 3)) (pt 1)) (record { x = var 4 ⊕ var 6 ⊕ var 8; y = var 5 ⊕ var 7 ⊕ var 9 })) (only (given 0 ⊞ number 2 ⊠ given 1)) tt

-- ---- a right cell

module _ (cs : List ℤ) {T : Cells} (N : Numbered T) {c : ℕ} (h : c < cell_count T) where
  all_sides : first T c + side_count T c ≡ first T (suc c)
  all_sides = omega (arith, N.at_least c h)

  pub side_at : {i : ℕ} → i < side_count T c → SideOf T c (first T c + i)
  side_at l = record { not_before = omega arith; not_after = omega (arith, all_sides) }

  -- the place of a side
  pub place_of : {f : ℕ} → SideOf T c f → (f - first T c < side_count T c) × (first T c + (f - first T c) ≡ f)
  place_of s = (omega (arith, all_sides, s.not_before, s.not_after), omega (arith, s.not_before))

  -- what is said of each place is said of each side
  pub at_each_side : (P : Point → Point → Type 0) → ((i : ℕ) → i < side_count T c → P ((shape cs T c).start i) ((shape cs T c).finish i)) → {f : ℕ} → SideOf T c f → P (at cs T f) (at cs T (next T f))
  unfolding shape
  at_each_side P each {f} s =
      let k = place_of s in
      let e = face_before_the_end T c k.0 ∙ k.1 in
      subst (λ (g : ℕ). P (at cs T g) (at cs T (next T g))) e (each (f - first T c) k.0)

  -- and the other way
  pub at_each_place : (P : Point → Point → Type 0) → ((f : ℕ) → SideOf T c f → P (at cs T f) (at cs T (next T f))) → (i : ℕ) → i < side_count T c → P ((shape cs T c).start i) ((shape cs T c).finish i)
  unfolding shape
  at_each_place P each i l =
      subst (λ (g : ℕ). P (at cs T g) (at cs T (next T g))) (sym (face_before_the_end T c l)) (each _ (side_at l))

  pub three_sides : 2 < side_count T c
  three_sides = omega (arith, N.at_least c h)

  pub goes_round : Round (shape cs T c)
  unfolding shape
  goes_round =
      record {
        goes_on = λ i l. ap (at cs T) (ap (next T) (face_before_the_end T c l) ∙ by_place i l (dec_lt (suc i) (side_count T c)));
        comes_round = ap (at cs T) (face_at_the_end T c (omega arith) ∙ sym (face_before_the_end T c {i = 0} (omega (arith, three_sides)) ∙ omega arith));
      }
    where
      by_place : (i : ℕ) → i < side_count T c → Dec (suc i < side_count T c) → next T (first T c + i) ≡ face_at T c (suc i)
      by_place i l (yes k) =
          next_goes_on N h (side_at l) (omega (arith, all_sides)) ∙ sym (face_before_the_end T c k ∙ omega arith)
      by_place i l (no k) =
          next_comes_round N h (side_at l) (omega (arith, all_sides)) ∙ sym (face_at_the_end T c (omega arith))

  module _ (right : CellsRight cs T) where
    -- a corner of the cell that is no end of side f is strictly left of it
    other_is_left : {f g : ℕ} → SideOf T c f → SideOf T c g → (g ≡ f → ⊥) → (g ≡ next T f → ⊥) → 𝟘 <ℤ side (at cs T f) (at cs T (next T f)) (at cs T g)
    other_is_left {f} {g} s t = convex N right f g (side_exists N h s) (side_exists N h t) (home_is N h s ∙ sym (home_is N h t))

    -- and none is right of it
    pub none_is_right : {f g : ℕ} → SideOf T c f → SideOf T c g → 𝟘 ≤ℤ side (at cs T f) (at cs T (next T f)) (at cs T g)
    none_is_right {f} {g} s t = by_place (ℕ_discrete g f) (ℕ_discrete g (next T f))
      where
        by_place : Dec (g ≡ f) → Dec (g ≡ next T f) → 𝟘 ≤ℤ side (at cs T f) (at cs T (next T f)) (at cs T g)
        by_place (yes e) l = rw e (no_value_is_not_negative (no_value_at_the_start _ _))
        by_place (no e) (yes l) = rw l (no_value_is_not_negative (no_value_at_the_finish _ _))
        by_place (no e) (no l) = less_is_at_most (other_is_left s t e l)

    -- of three corners one is no end of side f
    abbrev value : ℕ → ℕ → ℤ
    value f i = side (at cs T f) (at cs T (next T f)) (at cs T (first T c + i))

    abbrev AnEnd : ℕ → ℕ → Type 0
    AnEnd f i = (first T c + i ≡ f) ⊎ (first T c + i ≡ next T f)

    abbrev NoEnd : ℕ → ℕ → Type 0
    NoEnd f i = (first T c + i ≡ f → ⊥) × (first T c + i ≡ next T f → ⊥)

    three_together : {f : ℕ} → SideOf T c f → 𝟘 <ℤ (value f 0 +ℤ value f 1 +ℤ value f 2)
    three_together {f} s = by_ends (ends_at 0) (ends_at 1) (ends_at 2)
      where
        third : (i : ℕ) → i < 3 → SideOf T c (first T c + i)
        third i l = side_at (omega (arith, three_sides))

        ends_at : (i : ℕ) → AnEnd f i ⊎ NoEnd f i
        ends_at i = by_place (ℕ_discrete (first T c + i) f) (ℕ_discrete (first T c + i) (next T f))
          where
            by_place : Dec (first T c + i ≡ f) → Dec (first T c + i ≡ next T f) → AnEnd f i ⊎ NoEnd f i
            by_place (yes e) l = inl (inl e)
            by_place (no e) (yes l) = inl (inr l)
            by_place (no e) (no l) = inr (e, l)

        at_least_none : (i : ℕ) → i < 3 → 𝟘 ≤ℤ value f i
        at_least_none i l = none_is_right s (third i l)

        more : (i : ℕ) → i < 3 → NoEnd f i → 𝟘 <ℤ value f i
        more i l e = other_is_left s (third i l) e.0 e.1

        not_all_three : AnEnd f 0 → AnEnd f 1 → AnEnd f 2 → ⊥
        not_all_three (inl a) (inl b) d = omega arith
        not_all_three (inl a) (inr b) (inl d) = omega arith
        not_all_three (inl a) (inr b) (inr d) = omega arith
        not_all_three (inr a) (inl b) (inl d) = omega arith
        not_all_three (inr a) (inl b) (inr d) = omega arith
        not_all_three (inr a) (inr b) d = omega arith

        by_ends : AnEnd f 0 ⊎ NoEnd f 0 → AnEnd f 1 ⊎ NoEnd f 1 → AnEnd f 2 ⊎ NoEnd f 2 → 𝟘 <ℤ (value f 0 +ℤ value f 1 +ℤ value f 2)
        by_ends (inr a) b d = positive_sum (positive_sum (more 0 (omega arith) a) (at_least_none 1 (omega arith))) (at_least_none 2 (omega arith))
        by_ends (inl a) (inr b) d =
            let two : 𝟘 <ℤ (value f 0 +ℤ value f 1) = rw (+ℤ_comm (value f 0) (value f 1)) (positive_sum (more 1 (omega arith) b) (at_least_none 0 (omega arith))) in
            positive_sum two (at_least_none 2 (omega arith))
        by_ends (inl a) (inl b) (inr d) =
            rw (+ℤ_comm (value f 0 +ℤ value f 1) (value f 2))
            (positive_sum (more 2 (omega arith) d) (not_negative_sum (at_least_none 0 (omega arith)) (at_least_none 1 (omega arith))))
        by_ends (inl a) (inl b) (inl d) = absurd (not_all_three a b d)

    pub is_convex : Convex (shape cs T c)
    unfolding shape
    is_convex =
        record {
          holds = λ i k l m. at_each_place (λ a b. 𝟘 ≤ℤ side a b (at cs T (face_at T c k))) (λ f s. rw (face_before_the_end T c m) (none_is_right s (side_at m))) i l;
          x = p.x;
          y = p.y;
          w = pos 3;
          positive = lt_z_yes tt;
          inside = record { left_of_each = at_each_place (λ a b. 𝟘 <ℤ side (scaled (pos 3) a) (scaled (pos 3) b) p) (λ f s. left_of_the_middle _ _ _ _ _ (three_together s)) };
        }
      where
        p : Point
        p = middle (at cs T (first T c + 0)) (at cs T (first T c + 1)) (at cs T (first T c + 2))

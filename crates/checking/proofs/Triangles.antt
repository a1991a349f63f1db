-- A cell with three sides: one side value decides.
use mathlib.Core.Bool.{Bool, true, false, not}
use mathlib.Core.List.{List}
use mathlib.Core.Path.{◌≡◌, sym, ap, ◌∙◌, subst}
use Prim.Native.Nat.{ℕ, suc, ◌+◌, ◌<◌, ◌≤◌}
use native.Mathlib.Decide.{ℕ_discrete, dec_lt}
use native.Mathlib.Omega.{arith}
use lib.IntN.{ℤ, pos}
use lib.Signed.{◌<ℤ◌, lt_z, <ℤ_irrefl}
use Rattle.exact.proofs.Order.{𝟘, ltZ_true, lt_ltZ}
use Rattle.plane.specs.Side.{Point, side}
use Rattle.plane.proofs.Found.{side_turns_with_its_corners, flat_first_two}
use Rattle.cells.specs.Lists.{Cells, corner_at, corner_count, cell_count, first, next, start}
use Rattle.cells.specs.Check.{some_face, wrong_for_side, missing_corner, wrong_side, wrong_cell}
use Rattle.cells.specs.Sound.{Numbered}
use Rattle.cells.proofs.Faces.{SideOf, next_goes_on, next_comes_round, a_face, at_no_face}
use Rattle.cells.proofs.Cells.{at, its_own_start, starts_there_again, its_own_finish, by_side_value}
use Rattle.checking.proofs.Cells.{corner_there, wrong_by_its_sides}

-- f is the first, the second or the third of them
data Third (T : Cells) (a f : ℕ) : Type 0 where
  one : f ≡ a → next T f ≡ a + 1 → next T (next T f) ≡ a + 2 → Third T a f
  two : f ≡ a + 1 → next T f ≡ a + 2 → next T (next T f) ≡ a → Third T a f
  three : f ≡ a + 2 → next T f ≡ a → next T (next T f) ≡ a + 1 → Third T a f

no_area : (a c : Point) → ¬ (𝟘 <ℤ side a a c)
no_area a c h = <ℤ_irrefl (subst (λ (z : ℤ). 𝟘 <ℤ z) (flat_first_two a c) h)

turn : (a b c : Point) → 𝟘 <ℤ side a b c → 𝟘 <ℤ side b c a
turn a b c h = subst (λ (z : ℤ). 𝟘 <ℤ z) (side_turns_with_its_corners a b c) h

module _ (cs : List ℤ) {T : Cells} (N : Numbered T) {c : ℕ} (h : c < cell_count T) (just_three : first T (suc c) ≡ first T c + 3) where
  side_at : {f : ℕ} → first T c ≤ f → f < first T c + 3 → SideOf T c f
  side_at l m = record { not_before = l; not_after = omega arith }

  after_first : next T (first T c) ≡ first T c + 1
  after_first = next_goes_on N h (side_at (omega arith) (omega arith)) (omega arith) ∙ omega arith

  after_second : next T (first T c + 1) ≡ first T c + 2
  after_second = next_goes_on N h (side_at (omega arith) (omega arith)) (omega arith) ∙ omega arith

  after_third : next T (first T c + 2) ≡ first T c
  after_third = next_comes_round N h (side_at (omega arith) (omega arith)) (omega arith)

  thirds : {f : ℕ} → SideOf T c f → Third T (first T c) f
  thirds {f} s = by_place (dec_lt f (first T c + 1)) (dec_lt f (first T c + 2))
    where
      at_first : f ≡ first T c → Third T (first T c) f
      at_first e = let n = ap (next T) e ∙ after_first in one e n (ap (next T) n ∙ after_second)

      at_second : f ≡ first T c + 1 → Third T (first T c) f
      at_second e = let n = ap (next T) e ∙ after_second in two e n (ap (next T) n ∙ after_third)

      at_third : f ≡ first T c + 2 → Third T (first T c) f
      at_third e = let n = ap (next T) e ∙ after_third in three e n (ap (next T) n ∙ after_first)

      by_place : Dec (f < first T c + 1) → Dec (f < first T c + 2) → Third T (first T c) f
      by_place (yes k) l = at_first (omega (arith, s.not_before))
      by_place (no k) (yes l) = at_second (omega arith)
      by_place (no k) (no l) = at_third (omega (arith, s.not_after))

  the_rest : {f g : ℕ} → SideOf T c f → SideOf T c g → (g ≡ f → ⊥) → (g ≡ next T f → ⊥) → g ≡ next T (next T f)
  the_rest {f} {g} s t other beyond = by_side (thirds s)
    where
      by_side : Third T (first T c) f → g ≡ next T (next T f)
      by_side (one e n m) = omega (arith, t.not_before, t.not_after)
      by_side (two e n m) = omega (arith, t.not_before, t.not_after)
      by_side (three e n m) = omega (arith, t.not_before, t.not_after)

  -- the area, from whichever side it is read
  module _ (area : 𝟘 <ℤ side (at cs T (first T c)) (at cs T (first T c + 1)) (at cs T (first T c + 2))) where
    area_from : {f : ℕ} → SideOf T c f → 𝟘 <ℤ side (at cs T f) (at cs T (next T f)) (at cs T (next T (next T f)))
    area_from {f} s = by_side (thirds s)
      where
        along : {i j k i' j' k' : ℕ} → i ≡ i' → j ≡ j' → k ≡ k' → 𝟘 <ℤ side (at cs T i') (at cs T j') (at cs T k') → 𝟘 <ℤ side (at cs T i) (at cs T j) (at cs T k)
        along e n m a = rw (e, n, m) a

        by_side : Third T (first T c) f → 𝟘 <ℤ side (at cs T f) (at cs T (next T f)) (at cs T (next T (next T f)))
        by_side (one e n m) = along e n m area
        by_side (two e n m) = along e n m (turn _ _ _ area)
        by_side (three e n m) = along e n m (turn _ _ _ (turn _ _ _ area))

    -- so a cell's corner numbers differ
    ends_differ : {f : ℕ} → SideOf T c f → start T (next T f) ≡ start T f → ⊥
    ends_differ {f} s e = no_area _ _ (subst (λ (i : ℕ). 𝟘 <ℤ side (at cs T f) (corner_at cs i) (at cs T (next T (next T f)))) e (area_from s))

    right_for : {f g : ℕ} → SideOf T c f → SideOf T c g → wrong_for_side cs T f g ≡ false
    right_for {f} {g} s t = by_place (ℕ_discrete g f) (ℕ_discrete g (next T f))
      where
        by_place : Dec (g ≡ f) → Dec (g ≡ next T f) → wrong_for_side cs T f g ≡ false
        by_place (yes e) l = its_own_start cs T f g e
        by_place (no e) (yes l) = its_own_finish cs T f g e (λ m. ends_differ s (ap (start T) (sym l) ∙ m)) l
        by_place (no e) (no l) =
            let last = the_rest s t e l in
            let a : 𝟘 <ℤ side (at cs T f) (at cs T (next T f)) (at cs T g) = rw last (area_from s) in
            by_side_value cs T f g e (λ m. no_area _ _ (subst (λ (i : ℕ). 𝟘 <ℤ side (corner_at cs i) (at cs T f) (at cs T (next T f))) m (turn _ _ _ (turn _ _ _ a)))) l
            ∙ ap not (lt_ltZ a)

    all_right : some_face T c (wrong_side cs T c) ≡ false
    unfolding wrong_side
    all_right = at_no_face N h (wrong_side cs T c) (λ f s. at_no_face N h (wrong_for_side cs T f) (λ g t. right_for s t))

  -- where there is none, the third corner is wrong for the first side
  third_is_wrong : lt_z (pos 0) (side (at cs T (first T c)) (at cs T (first T c + 1)) (at cs T (first T c + 2))) ≡ false → some_face T c (wrong_side cs T c) ≡ true
  unfolding wrong_side
  third_is_wrong e =
      a_face N h (wrong_side cs T c) (side_at (omega arith) (omega arith)) (a_face N h (wrong_for_side cs T (first T c)) (side_at (omega arith) (omega arith)) (by_start (ℕ_discrete (start T (first T c + 2)) (start T (first T c)))))
    where
      by_start : Dec (start T (first T c + 2) ≡ start T (first T c)) → wrong_for_side cs T (first T c) (first T c + 2) ≡ true
      by_start (yes k) = starts_there_again cs T _ _ (λ l. omega arith) k
      by_start (no k) =
          by_side_value cs T _ _ (λ l. omega arith) k (λ l. omega (arith, after_first))
          ∙ ap not (subst (λ (g : ℕ). lt_z (pos 0) (side (at cs T (first T c)) (at cs T g) (at cs T (first T c + 2))) ≡ false) (sym after_first) e)

  by_area : (t : Bool) → t ≡ lt_z (pos 0) (side (at cs T (first T c)) (at cs T (first T c + 1)) (at cs T (first T c + 2))) → not t ≡ some_face T c (wrong_side cs T c)
  by_area true e = sym (all_right (ltZ_true _ _ (sym e)))
  by_area false e = sym (third_is_wrong (sym e))

  -- its sides are f, f + 1 and f + 2
  module _ {f : ℕ} (is_f : f ≡ first T c) where
    pub three_sides : SideOf T c f × (SideOf T c (f + 1) × SideOf T c (f + 2))
    three_sides = (side_at (omega arith) (omega arith), (side_at (omega arith) (omega arith), side_at (omega arith) (omega arith)))

    module _ (there : some_face T c (missing_corner cs T) ≡ false) {a b d : ℕ} (is_a : a ≡ start T f) (is_b : b ≡ start T (f + 1)) (is_d : d ≡ start T (f + 2)) where
      pub three_there : (a < corner_count cs) × ((b < corner_count cs) × (d < corner_count cs))
      three_there =
          let s = three_sides in
          (corner_there cs N h there s.0 is_a, (corner_there cs N h there s.1.0 is_b, corner_there cs N h there s.1.1 is_d))

      -- one side value decides
      pub by_its_area : {t : Bool} → t ≡ lt_z (pos 0) (side (corner_at cs a) (corner_at cs b) (corner_at cs d)) → not t ≡ wrong_cell cs T c
      by_its_area {t} e = by_area t (rw (← is_f, ← is_a, ← is_b, ← is_d) e) ∙ wrong_by_its_sides cs N h there

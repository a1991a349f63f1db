-- Finding where the stand is: the search through the cells, and its replies.
use mathlib.Core.Bool.{Bool, true, false}
use mathlib.Core.List.{List, [], ◌∷◌}
use mathlib.Core.Path.{◌≡◌, refl, ap, ap₂, sym, ◌∙◌, subst}
use Prim.Native.Nat.{ℕ, ◌+◌, ◌<◌, ◌≤◌}
use native.Mathlib.Decide.{dec_lt}
use native.Mathlib.Omega.{arith}
use borrow.Author.Tests.{lt-ltb, le-ltb}
use lib.Dec.{ltb}
use lib.IntN.{ℤ}
use mir.Syntax.{w64}
use mir.Val.{to_z, of_z}
use Rattle.exact.proofs.Bounds.{coordinate}
use Rattle.plane.specs.Side.{Point, point, Near}
use Rattle.plane.specs.declared.Containment.{Containment}
use Rattle.plane.specs.declared.Containment.TheVariants as W
use Rattle.cells.specs.Lists.{Cells, cell_count, face_count, home}
use Rattle.cells.specs.Sound.{Numbered, CellsRight}
use Rattle.cells.proofs.Least.{not_both, none_holds, least_is_none, Seeks, seek_begins, seek_goes_on, seek_found, seek_ends}
use Rattle.cells.proofs.Faces.{home_exists, side_of_home}
use Rattle.limits.specs.declared.Refusal.TheVariants.{Outside}
use Rattle.stand.specs.Find.{against, is_inside, is_border, within_free, first_inside, first_within, first_border, side_at, by_places, located}
use Rattle.stand.specs.declared.locate.Footing.{Footing}
use Rattle.stand.specs.declared.locate.Footing.TheVariants.{Inside}
use Rattle.stand.proofs.Against.{on_a_line_is_border}
use Rattle.stand.proofs.Located.{is_within_and_free, a_side_is_on_the_border}
use Rattle.limits.specs.declared.Refusal.{Refusal}
use Rattle.std.specs.Prelude.{Err, Ok, Result}

-- ---- the search

-- no cell before c holds q strictly inside; `border` tells whether one of them has it on its border
pub record Searched (cs : List ℤ) (T : Cells) (q : Point) (c : ℕ) (border : Bool) : Type 0 where
  pub none_inside : Seeks (λ (i : ℕ). is_inside (against cs T q i)) (cell_count T) c
  pub on_a_border : border ≡ true → (k : ℕ) × (k < cell_count T) × (is_border (against cs T q k) ≡ true)
  pub on_no_border : border ≡ false → (k : ℕ) → k < c → is_border (against cs T q k) ≡ false

pub search_begins : {cs : List ℤ} {T : Cells} {q : Point} → Searched cs T q 0 false
search_begins =
    record {
      none_inside = seek_begins _ _;
      on_a_border = λ e. absurd (not_both e refl);
      on_no_border = λ e k l. absurd (omega arith);
    }

module _ {cs : List ℤ} {T : Cells} {q : Point} {c : ℕ} {border : Bool} (s : Searched cs T q c border) where
  -- cell c, by the code's answer for it
  module _ (h : c < cell_count T) {w : Containment} (is_w : w ≡ against cs T q c) where
    pub held_strictly : w ≡ W.Inside → (ds : List ℕ) (v : ℕ) → Ok (Inside c) ≡ located cs T ds v q
    unfolding located
    held_strictly e ds v =
        let is_c : c ≡ first_inside cs T q = seek_found s.none_inside h (ap is_inside (sym is_w ∙ e)) in
        let k : first_inside cs T q < cell_count T = rw is_c at h in
        simp (lt-ltb _ _ k, is_c)

    pub met_on_its_border : w ≡ W.Border → Searched cs T q (c + 1) true
    met_on_its_border e =
        record {
          none_inside = seek_goes_on s.none_inside h (ap is_inside (sym is_w ∙ e));
          on_a_border = λ b. (c, h, ap is_border (sym is_w ∙ e));
          on_no_border = λ b. absurd (not_both refl b);
        }

    pub passed_by : w ≡ W.Outside → Searched cs T q (c + 1) border
    passed_by e =
        record {
          none_inside = seek_goes_on s.none_inside h (ap is_inside (sym is_w ∙ e));
          on_a_border = s.on_a_border;
          on_no_border = λ b k l. by_order b k l (dec_lt k c);
        }
      where
        by_order : border ≡ false → (k : ℕ) → k < c + 1 → Dec (k < c) → is_border (against cs T q k) ≡ false
        by_order b k l (yes m) = s.on_no_border b k m
        by_order b k l (no m) =
            let same : c ≡ k = omega arith in
            subst (λ (i : ℕ). is_border (against cs T q i) ≡ false) same (ap is_border (sym is_w ∙ e))

  module _ (h : cell_count T ≤ c) (ds : List ℕ) (v : ℕ) where
    in_no_cell : cell_count T ≤ first_inside cs T q
    in_no_cell = let is_c : c ≡ first_inside cs T q = seek_ends s.none_inside h in rw is_c at h

    -- the sides decide
    pub is_on_a_border : border ≡ true → {r : Result Footing Refusal} → r ≡ by_places false (ltb (first_within cs T ds v q) (face_count T)) true 0 (side_at T (first_within cs T ds v q)) → r ≡ located cs T ds v q
    unfolding located
    is_on_a_border b {r} e = simp (le-ltb _ _ in_no_cell, lt-ltb _ _ (below (dec_lt (first_border cs T q) (cell_count T)))) (e ∙ by_sides (ltb (first_within cs T ds v q) (face_count T)) _)
      where
        below : Dec (first_border cs T q < cell_count T) → first_border cs T q < cell_count T
        below (yes k) = k
        below (no k) =
            let one = s.on_a_border b in
            absurd (not_both one.2 (none_holds (λ (i : ℕ). is_border (against cs T q i)) (cell_count T) (omega arith) one.0 one.1))

        by_sides : (a : Bool) (p : Footing) → by_places false a true 0 p ≡ by_places false a true (first_inside cs T q) p
        by_sides true p = refl
        by_sides false p = refl

    -- a side that the stand is strictly within would have it on its cell's border
    pub is_outside : Numbered T → CellsRight cs T → border ≡ false → Err Outside ≡ located cs T ds v q
    unfolding located
    is_outside N right b =
        let none = least_is_none (λ (i : ℕ). is_border (against cs T q i)) (cell_count T) 0 (λ k l m. s.on_no_border b k (omega arith)) in
        let k : cell_count T ≤ first_border cs T q = omega (arith, none) in
        let no_side = least_is_none (within_free cs T ds v q) (face_count T) 0 (λ f l m. by_test f (omega arith) (within_free cs T ds v q f) refl) in
        let n : face_count T ≤ first_within cs T ds v q = omega (arith, no_side) in
        simp (le-ltb _ _ in_no_cell, le-ltb _ _ k, le-ltb _ _ n)
      where
        by_test : (f : ℕ) → f < face_count T → (a : Bool) → within_free cs T ds v q f ≡ a → within_free cs T ds v q f ≡ false
        by_test f l true e =
            let here = home_exists N f l in
            let on_it = a_side_is_on_the_border N right q here (side_of_home N f l) (is_within_and_free cs T q f ds v e).0 in
            absurd (not_both (ap is_border (on_a_line_is_border cs N q here on_it)) (s.on_no_border b (home T f) (omega (arith, here))))
        by_test f l false e = e

-- ---- a stand as the code reads it

module _ {u v : ℤ} (near : Near (record { x = u; y = v })) where
  pub as_read : point (to_z w64 (of_z w64 u) ∷ to_z w64 (of_z w64 v) ∷ []) ≡ record { x = u; y = v }
  as_read = ap₂ (λ (x y : ℤ). point (x ∷ y ∷ [])) (coordinate w64 tt near.x_near).is (coordinate w64 tt near.y_near).is

  pub near_as_read : Near (point (to_z w64 (of_z w64 u) ∷ to_z w64 (of_z w64 v) ∷ []))
  near_as_read = subst Near (sym as_read) near

-- Right and wrong doors, by what was read of them.
use mathlib.Core.Bool.{Bool, true, false, not, ◌||◌}
use mathlib.Core.List.{List}
use mathlib.Core.Path.{◌≡◌, ap, sym, ◌∙◌}
use Prim.Native.Nat.{ℕ, ◌+◌, ◌<◌, ◌≤◌}
use native.Mathlib.Decide.{dec_lt}
use native.Mathlib.Omega.{arith}
use borrow.Author.Tests.{eq-eqb, ne_eqb, lt-ltb, le-ltb}
use lib.Dec.{eqb, ltb}
use lib.ListN.{length, get_or, take}
use lib.Seq.{length-take-le}
use Rattle.std.specs.Bool.{MatchBool}
use Rattle.std.specs.List.{AllWithin, HoldsAt}
use Rattle.std.proofs.lemmas.List.{get_or-take}
use Rattle.limits.specs.Limits.{wall}
use Rattle.cells.specs.Least.{least}
use Rattle.cells.specs.Lists.{Cells, neighbour, back, face_count}
use Rattle.cells.specs.Check.{names, wrong_door}
use Rattle.cells.specs.Backed.{Backed}
use Rattle.cells.proofs.Least.{not_both, least_bounds, none_holds, least_is_none, least_by_the_same_test}

-- a door of the list names face f or face g
module _ (ds : List ℕ) (f g : ℕ) where
  pub named : (r : Bool) → MatchBool r ((k : ℕ) × (k < length ds) × HoldsAt (λ d. eqb d f || eqb d g ≡ true) ds k) (AllWithin (λ d. eqb d f || eqb d g ≡ false) ds 0 (length ds)) → r ≡ ltb (least (names ds f g) (length ds) 0) (length ds)
  unfolding names
  named true m = sym (lt-ltb _ _ (below (dec_lt (least (names ds f g) (length ds) 0) (length ds))))
    where
      below : Dec (least (names ds f g) (length ds) 0 < length ds) → least (names ds f g) (length ds) 0 < length ds
      below (yes l) = l
      below (no l) = absurd (not_both (m.2 0) (none_holds (names ds f g) (length ds) (omega arith) m.0 m.1))
  named false m =
      sym (le-ltb _ _ (omega (arith, least_is_none (names ds f g) (length ds) 0 (λ k h l. m k 0 h (omega arith)))))

-- no door before door i names them
none_before : (ds : List ℕ) (i f g : ℕ) → i ≤ length ds → ltb (least (names (take i ds) f g) (length (take i ds)) 0) (length (take i ds)) ≡ not (eqb (least (names ds f g) i 0) i)
unfolding names
none_before ds i f g h = rw (length-take-le i ds h, least_by_the_same_test (names (take i ds) f g) (names ds f g) i 0 same) (by_place (dec_lt (least (names ds f g) i 0) i))
  where
    same : (k : ℕ) → 0 ≤ k → k < 0 + i → names (take i ds) f g k ≡ names ds f g k
    same k l m = ap (λ (d : ℕ). eqb d f || eqb d g) (get_or-take i ds k 0 (omega arith))

    by_place : Dec (least (names ds f g) i 0 < i) → ltb (least (names ds f g) i 0) i ≡ not (eqb (least (names ds f g) i 0) i)
    by_place (yes l) = lt-ltb _ _ l ∙ sym (ap not (ne_eqb _ _ (λ e. omega arith)))
    by_place (no l) =
        let end : least (names ds f g) i 0 ≡ i = omega (arith, least_bounds (names ds f g) i 0) in
        le-ltb _ _ (omega arith) ∙ sym (ap not (eq-eqb _ _ end))

module _ (T : Cells) (ds : List ℕ) (i : ℕ) where
  pub no_such_face : face_count T ≤ get_or ds i 0 → true ≡ wrong_door T ds i
  unfolding wrong_door
  no_such_face h = simp (le-ltb _ _ h)

  module _ (h : get_or ds i 0 < face_count T) {n : ℕ} (is_n : n ≡ neighbour T (get_or ds i 0)) where
    pub on_a_wall : n ≡ wall → true ≡ wrong_door T ds i
    unfolding wrong_door
    on_a_wall k = simp (lt-ltb _ _ h, eq-eqb _ _ (sym is_n ∙ k))

    pub by_earlier : (n ≡ wall → ⊥) → {bs : List ℕ} → Backed T bs → i ≤ length ds → {b : Bool} → b ≡ ltb (least (names (take i ds) (get_or ds i 0) (get_or bs (get_or ds i 0) 0)) (length (take i ds)) 0) (length (take i ds)) → b ≡ wrong_door T ds i
    unfolding wrong_door
    by_earlier k {bs} backed l {b} is_b =
        let free : neighbour T (get_or ds i 0) ≡ wall → ⊥ = λ w. k (is_n ∙ w) in
        let is_back : get_or bs (get_or ds i 0) 0 ≡ back T (get_or ds i 0) = backed.stands _ h free in
        let earlier : b ≡ not (eqb (least (names ds (get_or ds i 0) (back T (get_or ds i 0))) i 0) i) = is_b ∙ none_before ds i _ _ l ∙ ap (λ (g : ℕ). not (eqb (least (names ds (get_or ds i 0) g) i 0) i)) is_back in
        simp (lt-ltb _ _ h, ne_eqb _ _ free, earlier)

-- Laws of faces numbered in file order: the cell of a face, and the sides of a cell, which follow each other.
use mathlib.Core.Bool.{Bool, true, false}
use mathlib.Core.Path.{◌≡◌, refl, sym, ◌∙◌, ap, subst}
use Prim.Native.Nat.{ℕ, zero, suc, ◌+◌, ◌-◌, ◌≤◌, ◌<◌}
use native.Mathlib.Decide.{dec_lt}
use native.Mathlib.Numerals.{add-one}
use native.Mathlib.Omega.{arith}
use borrow.Author.Tests.{eq-eqb, ne_eqb, lt-ltb, le-ltb, ltb-true}
use lib.Dec.{ltb}
use lib.ListN.{length}
use Rattle.cells.specs.Least.{least}
use Rattle.cells.specs.Lists.{Cells, cell_count, face_count, first, side_count, home, next}
use Rattle.cells.specs.Check.{some_face}
use Rattle.cells.specs.Sound.{Numbered}
use Rattle.cells.proofs.Least.{not_both, least_bounds, holds_at_least, fails_before_least, least_is_none}

-- face f is a side of cell c
pub record SideOf (T : Cells) (c f : ℕ) : Type 0 where
  pub not_before : first T c ≤ f
  pub not_after : f < first T (suc c)

module _ {T : Cells} (N : Numbered T) where
  -- ---- the first faces

  grows : (c : ℕ) → c < cell_count T → first T c ≤ first T (suc c)
  grows c h = omega (arith, N.at_least c h)

  firsts_grow_by : (n c : ℕ) → c + n ≤ cell_count T → first T c ≤ first T (c + n)
  firsts_grow_by zero c h = let same : c + zero ≡ c = omega arith in rw same (omega arith)
  firsts_grow_by (suc n) c h =
      let same : c + suc n ≡ suc (c + n) = omega arith in
      rw same (omega (arith, firsts_grow_by n c (omega arith), grows (c + n) (omega arith)))

  pub firsts_grow : (c d : ℕ) → c ≤ d → d ≤ cell_count T → first T c ≤ first T d
  firsts_grow c d h k =
      let same : c + (d - c) ≡ d = omega arith in
      subst (λ (e : ℕ). first T c ≤ first T e) same (firsts_grow_by (d - c) c (omega arith))

  -- the faces of a cell exist
  pub side_exists : {c f : ℕ} → c < cell_count T → SideOf T c f → f < face_count T
  side_exists {c} {f} h s = omega (arith, s.not_after, firsts_grow (suc c) (cell_count T) h (omega arith), N.ends)

  -- no face is a side of two cells
  pub one_cell : {c d f : ℕ} → c < cell_count T → d < cell_count T → SideOf T c f → SideOf T d f → c ≡ d
  one_cell {c} {d} {f} h k s t = by_order (dec_lt c d) (dec_lt d c)
    where
      by_order : Dec (c < d) → Dec (d < c) → c ≡ d
      by_order (yes l) m = absurd (omega (arith, s.not_after, t.not_before, firsts_grow (suc c) d l (omega arith)))
      by_order (no l) (yes m) = absurd (omega (arith, t.not_after, s.not_before, firsts_grow (suc d) c m (omega arith)))
      by_order (no l) (no m) = omega arith

  -- ---- the cell of a face

  module _ (f : ℕ) (h : f < face_count T) where
    abbrev before : ℕ → Bool
    before c = ltb f (first T (suc c))

    pub home_exists : home T f < cell_count T
    unfolding home
    home_exists = by_place (dec_lt (least before (cell_count T) 0) (cell_count T))
      where
        last : (m : ℕ) → m ≡ cell_count T → cell_count T ≤ least before (cell_count T) 0 → ⊥
        last zero e none = omega (arith, N.begins, N.ends, h, ap (first T) e)
        last (suc m) e none =
            let here : f < first T (suc m) = omega (arith, N.ends, h, ap (first T) e) in
            not_both (lt-ltb _ _ here) (fails_before_least before (cell_count T) 0 m (omega arith) (omega arith))

        by_place : Dec (least before (cell_count T) 0 < cell_count T) → least before (cell_count T) 0 < cell_count T
        by_place (yes k) = k
        by_place (no k) = absurd (last (cell_count T) refl (omega arith))

    pub side_of_home : SideOf T (home T f) f
    unfolding home
    side_of_home =
        record {
          not_before = by_cell (home T f) refl;
          not_after = ltb-true _ _ (holds_at_least before (cell_count T) 0 (omega (arith, home_exists)));
        }
      where
        by_cell : (c : ℕ) → c ≡ least before (cell_count T) 0 → first T c ≤ f
        by_cell zero e = omega (arith, N.begins)
        by_cell (suc c) e = by_test (dec_lt f (first T (suc c)))
          where
            by_test : Dec (f < first T (suc c)) → first T (suc c) ≤ f
            by_test (yes k) = absurd (not_both (lt-ltb _ _ k) (fails_before_least before (cell_count T) 0 c (omega arith) (omega arith)))
            by_test (no k) = omega arith

  pub home_is : {c f : ℕ} → c < cell_count T → SideOf T c f → home T f ≡ c
  home_is {c} {f} h s =
      let k = side_exists h s in
      one_cell (home_exists f k) h (side_of_home f k) s

  -- ---- the next side

  module _ {c f : ℕ} (h : c < cell_count T) (s : SideOf T c f) where
    pub next_goes_on : suc f < first T (suc c) → next T f ≡ suc f
    unfolding next
    next_goes_on k = rw (home_is h s, ne_eqb (suc f) (first T (suc c)) (λ e. omega arith), next)

    pub next_comes_round : suc f ≡ first T (suc c) → next T f ≡ first T c
    unfolding next
    next_comes_round k = rw (home_is h s, eq-eqb (suc f) (first T (suc c)) k, next) (ap (first T) (home_is h s))

    pub next_is_a_side : SideOf T c (next T f)
    next_is_a_side = by_place (dec_lt (suc f) (first T (suc c)))
      where
        by_place : Dec (suc f < first T (suc c)) → SideOf T c (next T f)
        by_place (yes k) = rw (next_goes_on k) (record { not_before = omega (arith, s.not_before); not_after = k })
        by_place (no k) =
            rw (next_comes_round (omega (arith, s.not_after)))
            (record { not_before = omega arith; not_after = omega (arith, N.at_least c h) })

  -- a cell has more than two sides
  pub next_of_next_differs : {c f : ℕ} → c < cell_count T → SideOf T c f → next T (next T f) ≡ f → ⊥
  next_of_next_differs {c} {f} h s e = by_place (dec_lt (suc f) (first T (suc c))) (dec_lt (suc (suc f)) (first T (suc c)))
    where
      then : {g : ℕ} → next T f ≡ g → next T g ≡ f
      then n = ap (next T) (sym n) ∙ e

      wide : first T c + 3 ≤ first T (suc c)
      wide = N.at_least c h

      by_place : Dec (suc f < first T (suc c)) → Dec (suc (suc f) < first T (suc c)) → ⊥
      by_place (yes k) (yes l) =
          let t : SideOf T c (suc f) = record { not_before = omega (arith, s.not_before); not_after = k } in
          omega (arith, then (next_goes_on h s k), next_goes_on h t l)
      by_place (yes k) (no l) =
          let t : SideOf T c (suc f) = record { not_before = omega (arith, s.not_before); not_after = k } in
          omega (arith, wide, then (next_goes_on h s k), next_comes_round h t (omega arith))
      by_place (no k) l =
          let t : SideOf T c (first T c) = record { not_before = omega arith; not_after = omega (arith, wide) } in
          omega (arith, wide, s.not_after, then (next_comes_round h s (omega (arith, s.not_after))), next_goes_on h t (omega (arith, wide)))

  pub next_below : (f : ℕ) → f < face_count T → next T f < face_count T
  next_below f h = side_exists (home_exists f h) (next_is_a_side (home_exists f h) (side_of_home f h))

  pub next_stays_in_the_cell : (f : ℕ) → f < face_count T → home T (next T f) ≡ home T f
  next_stays_in_the_cell f h = home_is (home_exists f h) (next_is_a_side (home_exists f h) (side_of_home f h))

  -- ---- some face of a cell

  module _ {c : ℕ} (h : c < cell_count T) (t : ℕ → Bool) where
    all_sides : first T c + side_count T c ≡ first T (suc c)
    all_sides = omega (arith, N.at_least c h)

    pub no_face : some_face T c t ≡ false → {f : ℕ} → SideOf T c f → t f ≡ false
    unfolding some_face
    no_face e {f} s = by_place (dec_lt (least t (side_count T c) (first T c)) (first T (suc c)))
      where
        by_place : Dec (least t (side_count T c) (first T c) < first T (suc c)) → t f ≡ false
        by_place (yes k) = absurd (not_both (lt-ltb _ _ k) e)
        by_place (no k) = fails_before_least t (side_count T c) (first T c) f s.not_before (omega (arith, s.not_after))

    pub a_face : {f : ℕ} → SideOf T c f → t f ≡ true → some_face T c t ≡ true
    unfolding some_face
    a_face {f} s e = by_place (dec_lt (least t (side_count T c) (first T c)) (first T (suc c)))
      where
        by_place : Dec (least t (side_count T c) (first T c) < first T (suc c)) → ltb (least t (side_count T c) (first T c)) (first T (suc c)) ≡ true
        by_place (yes k) = lt-ltb _ _ k
        by_place (no k) =
            absurd (not_both e (fails_before_least t (side_count T c) (first T c) f s.not_before (omega (arith, s.not_after))))

    pub at_no_face : ((f : ℕ) → SideOf T c f → t f ≡ false) → some_face T c t ≡ false
    unfolding some_face
    at_no_face none =
        le-ltb (least t (side_count T c) (first T c)) (first T (suc c)) (omega (arith, all_sides, least_is_none t (side_count T c) (first T c) (λ k l m. none k (in_the_cell k l m))))
      where
        in_the_cell : (k : ℕ) → first T c ≤ k → k < first T c + side_count T c → SideOf T c k
        in_the_cell k l m = record { not_before = l; not_after = omega (arith, all_sides) }

    pub some_face_is : some_face T c t ≡ true → (f : ℕ) × SideOf T c f × (t f ≡ true)
    unfolding some_face
    some_face_is e =
        let found = least t (side_count T c) (first T c) in
        let below : found < first T (suc c) = ltb-true _ _ e in (
          found,
          record { not_before = (least_bounds t (side_count T c) (first T c)).0; not_after = below },
          holds_at_least t (side_count T c) (first T c) (omega (arith, all_sides)),
        )

-- a cell's sides go from its first face to before the next cell's, by what was read of the table
pub record Bounds (T : Cells) (c end : ℕ) : Type 0 where
  pub begin_stands : c < length T.firsts
  pub end_stands : c + 1 < length T.firsts
  pub three_sides : first T c + 3 ≤ end
  pub eight_sides : end ≤ first T c + 8
  pub within : end ≤ face_count T

pub bounds : {T : Cells} → Numbered T → {c : ℕ} → c < cell_count T → {end : ℕ} → end ≡ first T (c + 1) → Bounds T c end
bounds {T} N {c} h {end} is_end =
    let ends_there : end ≡ first T (suc c) = is_end ∙ ap (first T) (add-one c) in
    record {
      begin_stands = omega (arith, N.firsts_stand);
      end_stands = omega (arith, N.firsts_stand);
      three_sides = omega (arith, N.at_least c h, ends_there);
      eight_sides = omega (arith, N.at_most c h, ends_there);
      within = omega (arith, firsts_grow N (suc c) (cell_count T) h (omega arith), N.ends, ends_there);
    }

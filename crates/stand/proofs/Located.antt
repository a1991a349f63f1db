-- What finding's answers say of the stand, the cells and their sides (document 01, "The stand"; document 02, A4 and A14).
use mathlib.Core.Bool.{Bool, true, false, not, ◌&&◌}
use mathlib.Core.List.{List}
use mathlib.Core.Path.{◌≡◌, refl, sym, ◌∙◌, ap, ap₂, subst}
use Prim.Native.Nat.{ℕ, ◌+◌, ◌-◌, ◌<◌, ◌≤◌}
use native.Mathlib.Decide.{ℕ_discrete}
use native.Mathlib.Omega.{arith}
use borrow.Author.Tests.{lt-ltb, le-ltb, ltb-true, ltb-false, not-true}
use lib.Dec.{ltb}
use lib.IntN.{ℤ}
use lib.Signed.{◌<ℤ◌, ◌≤ℤ◌, ≤ℤ_refl}
use Rattle.exact.proofs.Order.{𝟘, less_is_at_most}
use Rattle.exact.proofs.Truth.{both_true}
use Rattle.plane.specs.Side.{Point}
use Rattle.plane.specs.Cone.{minus, cross, Opposite}
use Rattle.plane.specs.declared.Containment.{Containment}
use Rattle.plane.specs.declared.Containment.TheVariants as W
use Rattle.plane.proofs.Found.{opposite_turns}
use Rattle.plane.proofs.Within.{seen_from_it, ends_are_opposite, opposite_ends_hold_it}
use Rattle.limits.specs.Limits.{wall}
use Rattle.limits.specs.declared.Refusal.TheVariants as R
use Rattle.cells.specs.Lists.{Cells, corner_at, cell_count, face_count, first, side_count, home, next, start, neighbour, back}
use Rattle.cells.specs.Sound.{Numbered, CellsRight, Sound}
use Rattle.cells.proofs.Least.{holds_at_least, fails_before_least, none_holds, not_both, least_is, least_is_none, least_by_the_same_test}
use Rattle.cells.proofs.Faces.{SideOf, home_exists, side_of_home, home_is, side_exists}
use Rattle.cells.proofs.Plans.{back_starts_at_the_finish, back_finishes_at_the_start}
use Rattle.cells.proofs.ThirdLine.{ThirdLine, third_line}
use Rattle.cells.proofs.Within.{left_of_every_other_side}
use Rattle.setting.specs.Setting.{ends}
use Rattle.setting.proofs.Settings.{sight_ends_at_a_wall, a_line_is_free_from_both_sides}
use Rattle.stand.specs.Find.{side_value_at, against, is_inside, is_border, strictly_within, within_free, first_inside, first_within, first_border, side_at, by_places, located}
use Rattle.stand.specs.declared.locate.Footing.{Footing}
use Rattle.stand.specs.declared.locate.Footing.TheVariants.{Inside, Side}
use Rattle.stand.proofs.Against.{StrictlyInside, OnItsBorder, left_of_each_is_inside, on_a_line_is_border, inside_is_left_of_each, border_is_on_a_line}
use Rattle.std.specs.Prelude.{Err, Ok}

is_inside_only : {w : Containment} → is_inside w ≡ true → w ≡ W.Inside
is_inside_only {w = W.Inside} e = refl
is_inside_only {w = W.Border} e = absurd (not_both e refl)
is_inside_only {w = W.Outside} e = absurd (not_both e refl)

is_border_only : {w : Containment} → is_border w ≡ true → w ≡ W.Border
is_border_only {w = W.Inside} e = absurd (not_both e refl)
is_border_only {w = W.Border} e = refl
is_border_only {w = W.Outside} e = absurd (not_both e refl)

-- cell c holds the stand strictly inside, and no lesser cell does
pub record InCell (cs : List ℤ) (T : Cells) (q : Point) (c : ℕ) : Type 0 where
  pub cell_exists : c < cell_count T
  pub strictly_inside : StrictlyInside cs T q c
  pub no_lesser_cell : (k : ℕ) → k < c → ¬ StrictlyInside cs T q k

-- no cell holds the stand strictly inside
pub record InNoCell (cs : List ℤ) (T : Cells) (q : Point) : Type 0 where
  pub not_inside : (c : ℕ) → c < cell_count T → ¬ StrictlyInside cs T q c

-- some cell has the stand on its border
pub record OnABorder (cs : List ℤ) (T : Cells) (q : Point) : Type 0 where
  pub border_cell : ℕ
  pub border_exists : border_cell < cell_count T
  pub on_its_border : OnItsBorder cs T q border_cell

-- no cell has the stand on its border
pub record OnNoBorder (cs : List ℤ) (T : Cells) (q : Point) : Type 0 where
  pub not_on_its_border : (c : ℕ) → c < cell_count T → ¬ OnItsBorder cs T q c

-- the stand is strictly within side k of cell c, which is free; no cell holds the stand strictly inside, and no lesser free side has it strictly within
pub record OnSide (cs : List ℤ) (T : Cells) (ds : List ℕ) (w : ℕ) (q : Point) (c k : ℕ) : Type 0 where
  pub cell_exists : c < cell_count T
  pub side_exists : k < side_count T c
  pub within : strictly_within cs T q (first T c + k) ≡ true
  pub free : ends T ds w (first T c + k) ≡ false
  pub in_no_cell : InNoCell cs T q
  pub no_lesser_side : (f : ℕ) → f < first T c + k → within_free cs T ds w q f ≡ false

-- the stand is where finding says
pub data Stands (cs : List ℤ) (T : Cells) (ds : List ℕ) (w : ℕ) (q : Point) : Footing → Type 0 where
  in_a_cell : {c : ℕ} → InCell cs T q c → Stands cs T ds w q (Inside c)
  on_a_side : {c k : ℕ} → OnSide cs T ds w q c k → Stands cs T ds w q (Side c k)

-- ---- a side that the stand is strictly within

module _ (cs : List ℤ) (T : Cells) (q : Point) (f : ℕ) where
  -- seen from it, the side's ends lie in opposite directions
  pub side_ends_are_opposite : strictly_within cs T q f ≡ true → Opposite (minus (corner_at cs (start T f)) q) (minus (corner_at cs (start T (next T f))) q)
  unfolding strictly_within
  side_ends_are_opposite e = ends_are_opposite _ _ q e

  opposite_side_ends : Opposite (minus (corner_at cs (start T f)) q) (minus (corner_at cs (start T (next T f))) q) → strictly_within cs T q f ≡ true
  unfolding strictly_within
  opposite_side_ends o = opposite_ends_hold_it _ _ q o

  module _ (ds : List ℕ) (w : ℕ) where
    pub is_within_and_free : within_free cs T ds w q f ≡ true → (strictly_within cs T q f ≡ true) × (ends T ds w f ≡ false)
    unfolding within_free
    is_within_and_free e = let t = both_true _ _ e in (t.0, not-true _ t.1)

    pub within_and_free : strictly_within cs T q f ≡ true → ends T ds w f ≡ false → within_free cs T ds w q f ≡ true
    unfolding within_free
    within_and_free h k = ap₂ (λ (a b : Bool). a && not b) h k

    -- by whether the side holds the stand
    pub not_within_is_not_there : strictly_within cs T q f ≡ false → within_free cs T ds w q f ≡ false
    unfolding within_free
    not_within_is_not_there h = ap (λ (a : Bool). a && not (ends T ds w f)) h

    pub within_is_there_if_free : strictly_within cs T q f ≡ true → within_free cs T ds w q f ≡ not (ends T ds w f)
    unfolding within_free
    within_is_there_if_free h = ap (λ (a : Bool). a && not (ends T ds w f)) h

-- it is on the border of the side's cell: every other side of the cell has it strictly on its left
pub a_side_is_on_the_border : {cs : List ℤ} {T : Cells} → Numbered T → CellsRight cs T → (q : Point) {c f : ℕ} → c < cell_count T → SideOf T c f → strictly_within cs T q f ≡ true → OnItsBorder cs T q c
a_side_is_on_the_border {cs} {T} N right q {c} {f} h s e =
    record { right_of_none = λ g t. by_side g t (ℕ_discrete g f); border_side = f; is_a_side = s; on_its_line = on_it }
  where
    opposite : Opposite (minus (corner_at cs (start T f)) q) (minus (corner_at cs (start T (next T f))) q)
    opposite = side_ends_are_opposite cs T q f e

    on_it : side_value_at cs T q f ≡ 𝟘
    on_it = seen_from_it _ _ q ∙ opposite.along

    by_side : (g : ℕ) → SideOf T c g → Dec (g ≡ f) → 𝟘 ≤ℤ side_value_at cs T q g
    by_side g t (yes same) = subst (λ (z : ℤ). 𝟘 ≤ℤ z) (sym (ap (side_value_at cs T q) same ∙ on_it)) (≤ℤ_refl 𝟘)
    by_side g t (no other) = less_is_at_most (left_of_every_other_side N right q h s opposite g t other)

module _ {cs : List ℤ} {T : Cells} {ds : List ℕ} (sound : Sound cs T ds) (q : Point) (f : ℕ) (h : f < face_count T) where
  -- a line that is not wall holds it from both sides
  pub within_from_both_sides : (neighbour T f ≡ wall → ⊥) → strictly_within cs T q f ≡ true → strictly_within cs T q (back T f) ≡ true
  within_from_both_sides free e =
      opposite_side_ends cs T q (back T f)
      (turned (back_starts_at_the_finish sound f h free) (back_finishes_at_the_start sound f h free) (opposite_turns _ _ (side_ends_are_opposite cs T q f e)))
    where
      turned : {i j m n : ℕ} → m ≡ i → n ≡ j → Opposite (minus (corner_at cs i) q) (minus (corner_at cs j) q) → Opposite (minus (corner_at cs m) q) (minus (corner_at cs n) q)
      turned a b o = rw (a, b) o

  -- so it is strictly within the neighbour's side too, which is free likewise
  pub within_the_neighbours_side_too : (w : ℕ) → within_free cs T ds w q f ≡ true → within_free cs T ds w q (back T f) ≡ true
  within_the_neighbours_side_too w e =
      let t = is_within_and_free cs T q f ds w e in
      let free : neighbour T f ≡ wall → ⊥ = λ k. not_both (sight_ends_at_a_wall T ds w f k) t.1 in
      within_and_free cs T q (back T f) ds w (within_from_both_sides free t.0) (a_line_is_free_from_both_sides sound w f h free ∙ t.1)

  -- and within no third line's, unless cells lie on top of each other
  pub within_no_third_line : (neighbour T f ≡ wall → ⊥) → strictly_within cs T q f ≡ true → (g : ℕ) → g < face_count T → strictly_within cs T q g ≡ true → ThirdLine cs T f g
  within_no_third_line free e g k d = third_line sound q f g h k free (side_ends_are_opposite cs T q f e) (side_ends_are_opposite cs T q g d)

module _ (cs : List ℤ) {T : Cells} (N : Numbered T) (q : Point) where
  inside? : ℕ → Bool
  inside? c = is_inside (against cs T q c)

  border? : ℕ → Bool
  border? c = is_border (against cs T q c)

  inside_there : {c : ℕ} → c < cell_count T → StrictlyInside cs T q c → inside? c ≡ true
  unfolding inside?
  inside_there h s = ap is_inside (left_of_each_is_inside cs N q h s)

  border_there : {c : ℕ} → c < cell_count T → OnItsBorder cs T q c → border? c ≡ true
  unfolding border?
  border_there h b = ap is_border (on_a_line_is_border cs N q h b)

  in_cell : first_inside cs T q < cell_count T → InCell cs T q (first_inside cs T q)
  unfolding inside?
  in_cell h =
      record {
        cell_exists = h;
        strictly_inside = inside_is_left_of_each cs N q h (is_inside_only (holds_at_least inside? (cell_count T) 0 (omega arith)));
        no_lesser_cell = λ k l s. not_both (inside_there {c = k} (omega arith) s) (fails_before_least inside? (cell_count T) 0 k (omega arith) l);
      }

  in_no_cell : cell_count T ≤ first_inside cs T q → InNoCell cs T q
  unfolding inside?
  in_no_cell h = record { not_inside = λ c l s. not_both (inside_there l s) (none_holds inside? (cell_count T) h c l) }

  on_border : first_border cs T q < cell_count T → OnABorder cs T q
  unfolding border?
  on_border h =
      record {
        border_cell = first_border cs T q;
        border_exists = h;
        on_its_border = border_is_on_a_line cs N q h (is_border_only (holds_at_least border? (cell_count T) 0 (omega arith)));
      }

  on_no_border : cell_count T ≤ first_border cs T q → OnNoBorder cs T q
  unfolding border?
  on_no_border h = record { not_on_its_border = λ c l b. not_both (border_there l b) (none_holds border? (cell_count T) h c l) }

  in_no_cell_is_none : InNoCell cs T q → cell_count T ≤ first_inside cs T q
  unfolding inside?
  in_no_cell_is_none none = omega (arith, least_is_none inside? (cell_count T) 0 (λ c l m. by_answer c m (inside? c) refl))
    where
      by_answer : (c : ℕ) → c < 0 + cell_count T → (b : Bool) → inside? c ≡ b → inside? c ≡ false
      by_answer c m true e = absurd (none.not_inside c (omega arith) (inside_is_left_of_each cs N q (omega arith) (is_inside_only e)))
      by_answer c m false e = e

module _ (cs : List ℤ) {T : Cells} (N : Numbered T) (ds : List ℕ) (w : ℕ) (q : Point) where
  on_side : InNoCell cs T q → first_within cs T ds w q < face_count T → Stands cs T ds w q (side_at T (first_within cs T ds w q))
  on_side none h =
      on_a_side {k = f - first T (home T f)}
      (record {
        cell_exists = home_exists N f h;
        side_exists = omega (arith, s.not_before, s.not_after);
        within = subst (λ (g : ℕ). strictly_within cs T q g ≡ true) same t.0;
        free = subst (λ (g : ℕ). ends T ds w g ≡ false) same t.1;
        in_no_cell = none;
        no_lesser_side = λ g l. fails_before_least (within_free cs T ds w q) (face_count T) 0 g (omega arith) (subst (λ (k : ℕ). g < k) (sym same) l);
      })
    where
      f : ℕ
      f = first_within cs T ds w q

      s : SideOf T (home T f) f
      s = side_of_home N f h

      same : f ≡ first T (home T f) + (f - first T (home T f))
      same = omega (arith, s.not_before)

      t : (strictly_within cs T q f ≡ true) × (ends T ds w f ≡ false)
      t = is_within_and_free cs T q f ds w (holds_at_least (within_free cs T ds w q) (face_count T) 0 (omega arith))

  within_no_side : face_count T ≤ first_within cs T ds w q → (f : ℕ) → f < face_count T → within_free cs T ds w q f ≡ false
  within_no_side h = none_holds (within_free cs T ds w q) (face_count T) h

  -- the place found is where the stand is
  pub found_place_holds_the_stand : {p : Footing} → located cs T ds w q ≡ Ok p → Stands cs T ds w q p
  unfolding located
  found_place_holds_the_stand {p} e =
      by_test (ltb (first_inside cs T q) (cell_count T)) refl (ltb (first_within cs T ds w q) (face_count T)) refl (ltb (first_border cs T q) (cell_count T)) e
    where
      by_test : (b : Bool) → ltb (first_inside cs T q) (cell_count T) ≡ b → (s : Bool) → ltb (first_within cs T ds w q) (face_count T) ≡ s → (d : Bool) → by_places b s d (first_inside cs T q) (side_at T (first_within cs T ds w q)) ≡ Ok p → Stands cs T ds w q p
      by_test true h s k d m =
          let same : Inside (first_inside cs T q) ≡ p = cc in
          subst (Stands cs T ds w q) same (in_a_cell (in_cell cs N q (ltb-true _ _ h)))
      by_test false h true k d m =
          let same : side_at T (first_within cs T ds w q) ≡ p = cc in
          subst (Stands cs T ds w q) same (on_side (in_no_cell cs N q (ltb-false _ _ h)) (ltb-true _ _ k))
      by_test false h false k true m = absurd (let z : ◌≡◌ {A = ℕ} 0 1 = cc in omega arith)
      by_test false h false k false m = absurd (let z : ◌≡◌ {A = ℕ} 0 1 = cc in omega arith)

  -- and the place where the stand is is found
  pub place_is_found : {p : Footing} → Stands cs T ds w q p → located cs T ds w q ≡ Ok p
  unfolding located inside?
  place_is_found (in_a_cell {c} i) =
      let is_c : c ≡ first_inside cs T q = least_is (inside? cs N q) (cell_count T) c i.cell_exists (inside_there cs N q i.cell_exists i.strictly_inside) (λ k l. no_lesser k l (inside? cs N q k) refl) in
      let below : first_inside cs T q < cell_count T = subst (λ (k : ℕ). k < cell_count T) is_c i.cell_exists in
      simp (lt-ltb _ _ below, is_c)
    where
      no_lesser : (k : ℕ) → k < c → (b : Bool) → inside? cs N q k ≡ b → inside? cs N q k ≡ false
      no_lesser k l true e = absurd (i.no_lesser_cell k l (inside_is_left_of_each cs N q (omega (arith, i.cell_exists)) (is_inside_only e)))
      no_lesser k l false e = e
  place_is_found (on_a_side {c} {k} o) =
      let above = in_no_cell_is_none cs N q o.in_no_cell in
      let below : first_within cs T ds w q < face_count T = subst (λ (f : ℕ). f < face_count T) is_f exists in
      simp (le-ltb _ _ above, lt-ltb _ _ below) (ap Ok (ap (side_at T) (sym is_f) ∙ there))
    where
      s : SideOf T c (first T c + k)
      s = record { not_before = omega arith; not_after = omega (arith, o.side_exists) }

      exists : first T c + k < face_count T
      exists = side_exists N o.cell_exists s

      is_f : first T c + k ≡ first_within cs T ds w q
      is_f =
          least_is (within_free cs T ds w q) (face_count T) (first T c + k) exists
          (within_and_free cs T q (first T c + k) ds w o.within o.free) o.no_lesser_side

      there : side_at T (first T c + k) ≡ Side c k
      there =
          let after : first T c + k - first T c ≡ k = omega arith in
          ap (λ (d : ℕ). Side d (first T c + k - first T d)) (home_is N o.cell_exists s) ∙ ap (Side c) after

  -- on 9 no cell holds it strictly, no free side has it strictly within, and some cell has it on its border
  pub line_is_on_a_border : located cs T ds w q ≡ Err R.Line → InNoCell cs T q × OnABorder cs T q × ((f : ℕ) → f < face_count T → within_free cs T ds w q f ≡ false)
  unfolding located
  line_is_on_a_border e =
      by_test (ltb (first_inside cs T q) (cell_count T)) refl (ltb (first_within cs T ds w q) (face_count T)) refl (ltb (first_border cs T q) (cell_count T)) refl e
    where
      by_test : (b : Bool) → ltb (first_inside cs T q) (cell_count T) ≡ b → (s : Bool) → ltb (first_within cs T ds w q) (face_count T) ≡ s → (d : Bool) → ltb (first_border cs T q) (cell_count T) ≡ d → by_places b s d (first_inside cs T q) (side_at T (first_within cs T ds w q)) ≡ Err R.Line → InNoCell cs T q × OnABorder cs T q × ((f : ℕ) → f < face_count T → within_free cs T ds w q f ≡ false)
      by_test true h s k d l m = absurd (let z : ◌≡◌ {A = ℕ} 0 1 = cc in omega arith)
      by_test false h true k d l m = absurd (let z : ◌≡◌ {A = ℕ} 0 1 = cc in omega arith)
      by_test false h false k true l m = (in_no_cell cs N q (ltb-false _ _ h), on_border cs N q (ltb-true _ _ l), within_no_side (ltb-false _ _ k))
      by_test false h false k false l m = absurd (let z : ◌≡◌ {A = ℕ} 0 1 = cc in omega arith)

  -- on 10 none of the three
  pub outside_is_off_every_cell : located cs T ds w q ≡ Err R.Outside → InNoCell cs T q × OnNoBorder cs T q × ((f : ℕ) → f < face_count T → within_free cs T ds w q f ≡ false)
  unfolding located
  outside_is_off_every_cell e =
      by_test (ltb (first_inside cs T q) (cell_count T)) refl (ltb (first_within cs T ds w q) (face_count T)) refl (ltb (first_border cs T q) (cell_count T)) refl e
    where
      by_test : (b : Bool) → ltb (first_inside cs T q) (cell_count T) ≡ b → (s : Bool) → ltb (first_within cs T ds w q) (face_count T) ≡ s → (d : Bool) → ltb (first_border cs T q) (cell_count T) ≡ d → by_places b s d (first_inside cs T q) (side_at T (first_within cs T ds w q)) ≡ Err R.Outside → InNoCell cs T q × OnNoBorder cs T q × ((f : ℕ) → f < face_count T → within_free cs T ds w q f ≡ false)
      by_test true h s k d l m = absurd (let z : ◌≡◌ {A = ℕ} 0 1 = cc in omega arith)
      by_test false h true k d l m = absurd (let z : ◌≡◌ {A = ℕ} 0 1 = cc in omega arith)
      by_test false h false k true l m = absurd (let z : ◌≡◌ {A = ℕ} 0 1 = cc in omega arith)
      by_test false h false k false l m = (in_no_cell cs N q (ltb-false _ _ h), on_no_border cs N q (ltb-false _ _ l), within_no_side (ltb-false _ _ k))

-- a setting that differs only at lines that do not hold the stand finds the same place
pub located_where_it_was : (cs : List ℤ) (T : Cells) (ds : List ℕ) (v w : ℕ) (q : Point) → ((f : ℕ) → f < face_count T → strictly_within cs T q f ≡ true → ends T ds v f ≡ ends T ds w f) → located cs T ds v q ≡ located cs T ds w q
unfolding located within_free
located_where_it_was cs T ds v w q same =
    ap (λ (f : ℕ). by_places (ltb (first_inside cs T q) (cell_count T)) (ltb f (face_count T)) (ltb (first_border cs T q) (cell_count T)) (first_inside cs T q) (side_at T f))
    (least_by_the_same_test (within_free cs T ds v q) (within_free cs T ds w q) (face_count T) 0 (λ f l m. by_test f m (strictly_within cs T q f) refl))
  where
    by_test : (f : ℕ) → f < 0 + face_count T → (b : Bool) → strictly_within cs T q f ≡ b → within_free cs T ds v q f ≡ within_free cs T ds w q f
    by_test f m true e = ap (λ (d : Bool). strictly_within cs T q f && not d) (same f (omega arith) e)
    by_test f m false e = not_within_is_not_there cs T q f ds v e ∙ sym (not_within_is_not_there cs T q f ds w e)

-- seen from a stand strictly inside, each side of the cell turns left around it
pub the_cell_goes_around_the_stand : (cs : List ℤ) (T : Cells) (q : Point) (c : ℕ) → StrictlyInside cs T q c → (f : ℕ) → SideOf T c f → 𝟘 <ℤ cross (minus (corner_at cs (start T f)) q) (minus (corner_at cs (start T (next T f))) q)
the_cell_goes_around_the_stand cs T q c inside f s = subst (λ (z : ℤ). 𝟘 <ℤ z) (seen_from_it _ _ q) (inside.left_of_each f s)

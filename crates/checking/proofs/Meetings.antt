-- Where two cells meet: the search for it, and what it says of a face.
use mathlib.Core.Bool.{Bool, true, false, ◌&&◌, and-true, and-false}
use mathlib.Core.Path.{◌≡◌, refl, ap, sym, ◌∙◌, subst}
use Prim.Native.Nat.{ℕ, suc, ◌+◌, ◌<◌, ◌≤◌}
use native.Mathlib.Decide.{dec_lt}
use native.Mathlib.Omega.{arith}
use borrow.Author.Tests.{eq-eqb, ne_eqb, eqb-true}
use lib.Dec.{eqb}
use Rattle.std.specs.Prelude.{Some, None}
use Rattle.std.specs.Bool.{then_some}
use Rattle.exact.proofs.Truth.{both_true}
use Rattle.cells.specs.Least.{least, before}
use Rattle.cells.specs.Lists.{Cells, cell_count, face_count, first, side_count, home, next, start, neighbour, answers, back}
use Rattle.cells.specs.Meeting.{reversed, Answered, Meeting, MeetOnce}
use Rattle.cells.specs.Meeting.Meeting.{at, nowhere}
use Rattle.cells.specs.Sound.{Numbered}
use Rattle.cells.proofs.Least.{not_both, least_bounds, holds_at_least, least_from}
use Rattle.cells.proofs.Faces.{SideOf, side_exists, side_of_home, home_is}
use Rattle.cells.proofs.Neighbours.{Answer, answered, answered_by}
use Rattle.cells.proofs.Searches.{at_the_least, past_the_end}

-- ---- a side answers face f of cell c or not, by what was read of it

module _ (T : Cells) (f g : ℕ) {c : ℕ} (at_home : home T f ≡ c) where
  both : reversed T f g && eqb (neighbour T g) c ≡ answers T f g
  unfolding answers reversed
  both = rw at_home

  pub answers_where_reversed : {r : Bool} → neighbour T g ≡ c → r ≡ reversed T f g → answers T f g ≡ r
  answers_where_reversed names is_r = sym both ∙ simp (eq-eqb _ _ names, and-true) (sym is_r)

  pub names_another_cell : (neighbour T g ≡ c → ⊥) → answers T f g ≡ false
  names_another_cell other = sym both ∙ simp (ne_eqb _ _ other, and-false)

-- ---- the search: of the sides of cell d before face g, none answers face f

pub record Unanswered (T : Cells) (d f g : ℕ) : Type 0 where
  pub none : (k : ℕ) → first T d ≤ k → k < g → answers T f k ≡ false

module _ {T : Cells} {d f : ℕ} where
  pub one_asked : {g : ℕ} → Unanswered T d f g → answers T f g ≡ false → Unanswered T d f (g + 1)
  one_asked {g} u e = record { none = λ k l m. before_or_at k l (dec_lt k g) m }
    where
      before_or_at : (k : ℕ) → first T d ≤ k → Dec (k < g) → k < g + 1 → answers T f k ≡ false
      before_or_at k l (yes less) m = u.none k l less
      before_or_at k l (no not_less) m =
          let same : k ≡ g = omega arith in
          rw same e

  pub passed_by : {g : ℕ} → Unanswered T d f g → first T (suc d) ≤ g → neighbour T f ≡ d → Answered T f → ⊥
  unfolding back
  passed_by {g} u l n a =
      let there : least (answers T f) (side_count T d) (first T d) < first T (suc d) = rw n at a in
      let bounds = least_bounds (answers T f) (side_count T d) (first T d) in
      not_both (holds_at_least (answers T f) (side_count T d) (first T d) (omega (arith, bounds))) (u.none _ bounds.0 (omega arith))

-- of the sides of cell c before face f, cell d answers none

pub record Unmet (T : Cells) (c d f : ℕ) : Type 0 where
  pub none : (k : ℕ) → first T c ≤ k → k < f → neighbour T k ≡ d → Answered T k → ⊥

module _ {T : Cells} {c d : ℕ} where
  pub one_more : {f : ℕ} → Unmet T c d f → (neighbour T f ≡ d → Answered T f → ⊥) → Unmet T c d (f + 1)
  one_more {f} u unmet = record { none = λ k l m. before_or_at k l m (dec_lt k f) }
    where
      before_or_at : (k : ℕ) → first T c ≤ k → k < f + 1 → Dec (k < f) → neighbour T k ≡ d → Answered T k → ⊥
      before_or_at k l m (yes less) = u.none k l less
      before_or_at k l m (no not_less) =
          let same : k ≡ f = omega arith in
          rw same unmet

  module _ (N : Numbered T) (h : c < cell_count T) where
    pub met : {f g : ℕ} → SideOf T c f → neighbour T f ≡ d → Unanswered T d f g → SideOf T d g → answers T f g ≡ true → Meeting T c d (Some g)
    unfolding back
    met {f} {g} s n u t e =
        let is_back : g ≡ back T f = rw n (least_from (answers T f) (first T d) (first T (suc d)) g t.not_before t.not_after e u.none) in
        let before_it : back T f < first T (suc (neighbour T f)) = rw (← is_back, n) t.not_after in
        at f (side_exists N h s) (home_is N h s) n before_it (ap Some is_back)

    pub unmet : {f : ℕ} → Unmet T c d f → first T (suc c) ≤ f → Meeting T c d None
    unmet {f} u l = nowhere (λ k m at_home. none k (subst (λ (b : ℕ). SideOf T b k) at_home (side_of_home N k m))) refl
      where
        none : (k : ℕ) → SideOf T c k → neighbour T k ≡ d → Answered T k → ⊥
        none k s = u.none k s.not_before (omega (arith, s.not_after))

-- ---- what it says of a side f of cell c, whose neighbour is d, where two cells meet at most once

module _ {T : Cells} (N : Numbered T) (once : MeetOnce T) {c d f : ℕ} (h : c < cell_count T) (s : SideOf T c f) (k : d < cell_count T) (is_d : d ≡ neighbour T f) where
  exists : neighbour T f < cell_count T
  exists = subst (λ (e : ℕ). e < cell_count T) is_d k

  -- the meeting is at face g of cell c
  module _ {g : ℕ} (m : g < face_count T) (at_home : home T g ≡ c) (n : neighbour T g ≡ d) (a : Answered T g) where
    also : neighbour T g < cell_count T
    also = subst (λ (e : ℕ). e < cell_count T) (sym n) k

    its_answer : Answer T g
    its_answer = answered N g also a

    met_in_d : SideOf T d (back T g)
    met_in_d = subst (λ (e : ℕ). SideOf T e (back T g)) n its_answer.in_the_neighbour

    same_face : Answered T f → f ≡ g
    same_face b = once.once f g (side_exists N h s) m (home_is N h s ∙ sym at_home) exists (sym is_d ∙ sym n) b a

    -- where it is f reversed, it answers f, so f is g
    is_the_face : reversed T f (back T g) ≡ true → f ≡ g
    unfolding reversed
    is_the_face e =
        let both = both_true _ _ e in
        same_face (answered_by N f exists (back T g) (subst (λ (e : ℕ). SideOf T e (back T g)) is_d met_in_d) (eqb-true _ _ both.0) (eqb-true _ _ both.1) (its_answer.its_neighbour ∙ at_home ∙ sym (home_is N h s)))

    -- and f's own answer is f reversed
    is_reversed : f ≡ g → reversed T f (back T g) ≡ true
    unfolding reversed
    is_reversed e =
        simp (eq-eqb _ _ (its_answer.its_start ∙ ap (λ (j : ℕ). start T (next T j)) (sym e)), eq-eqb _ _ (its_answer.its_finish ∙ ap (start T) (sym e)))

  -- no side answers f
  unanswered : (Answered T f → ⊥) → None ≡ before (first T (suc (neighbour T f))) (back T f)
  unanswered none = past_the_end (past (dec_lt (back T f) (first T (suc (neighbour T f)))))
    where
      past : Dec (Answered T f) → first T (suc (neighbour T f)) ≤ back T f
      past (yes a) = absurd (none a)
      past (no not_answered) = omega arith

  pub met_nowhere : Meeting T c d None → None ≡ before (first T (suc (neighbour T f))) (back T f)
  met_nowhere m = unanswered (by_meeting m)
    where
      by_meeting : Meeting T c d None → Answered T f → ⊥
      by_meeting (at g j o n a e) b = cc
      by_meeting (nowhere none e) b = none f (side_exists N h s) (home_is N h s) (sym is_d) b

  module _ {r : ℕ} (m : Meeting T c d (Some r)) where
    pub met_in_the_cell : SideOf T d r
    met_in_the_cell = by_meeting m
      where
        by_meeting : Meeting T c d (Some r) → SideOf T d r
        by_meeting (at g j o n a e) = let here : r ≡ back T g = cc in rw here (met_in_d j o n a)
        by_meeting (nowhere none e) = cc

    met_at_the_face : reversed T f r ≡ true → Some r ≡ before (first T (suc (neighbour T f))) (back T f)
    met_at_the_face e = by_meeting m
      where
        by_meeting : Meeting T c d (Some r) → Some r ≡ before (first T (suc (neighbour T f))) (back T f)
        by_meeting (at g j o n a i) =
            let here : r ≡ back T g = cc in
            let same : f ≡ g = is_the_face j o n a (subst (λ (x : ℕ). reversed T f x ≡ true) here e) in
            let answered : Answered T f = subst (λ (x : ℕ). Answered T x) (sym same) a in
            at_the_least (here ∙ ap (back T) (sym same)) (subst (λ (x : ℕ). x < first T (suc (neighbour T f))) (sym (here ∙ ap (back T) (sym same))) answered)
        by_meeting (nowhere none i) = cc

    met_at_another : reversed T f r ≡ false → None ≡ before (first T (suc (neighbour T f))) (back T f)
    met_at_another e = unanswered (by_meeting m)
      where
        by_meeting : Meeting T c d (Some r) → Answered T f → ⊥
        by_meeting (at g j o n a i) answer =
            let here : r ≡ back T g = cc in
            not_both (is_reversed j o n a (same_face j o n a answer)) (subst (λ (x : ℕ). reversed T f x ≡ false) here e)
        by_meeting (nowhere none i) answer = cc

    -- f's other side is where they meet, if that is f reversed
    pub met_or_not : (b : Bool) → b ≡ reversed T f r → then_some b r ≡ before (first T (suc (neighbour T f))) (back T f)
    met_or_not true e = met_at_the_face (sym e)
    met_or_not false e = met_at_another (sym e)

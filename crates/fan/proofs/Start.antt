-- Sides of a cell that turn left around the stand, and the stand strictly inside its cell, of any corner count, where all its sides do: a direction that meets
-- no corner leaves it by one of them.
use mathlib.Core.Logic.{◌⊎◌, inl, inr}
use mathlib.Core.Path.{◌≡◌, sym, ◌∙◌, ap, subst}
use Prim.Native.Nat.{ℕ, zero, suc, ◌≤◌, ◌<◌}
use native.Mathlib.Omega.{arith}
use lib.ListN.{length}
use lib.Signed.{◌<ℤ◌, ◌≤ℤ◌, clash_ℤ}
use Rattle.exact.proofs.Order.{𝟘, less_or_not, less_is_at_most}
use Rattle.plane.specs.Side.{Point}
use Rattle.plane.specs.Cone.{cross, dot, Meets, Direction}
use Rattle.plane.proofs.Found.{a_seen_line_is_a_cone, turns_nowhere, not_left_both_ways, no_zero_limit, no_zero_right_limit, right_turned_is_left, order_right_of_a_direction_is_transitive, order_left_of_a_direction_is_transitive, after_a_corner_behind, before_a_corner_behind}
use Rattle.plane.proofs.Cones.{Passes, passes, direction_has_length}
use Rattle.plane.proofs.Cones.Passes.{left, right, away}
use Rattle.fan.specs.Sight.{Floor, sides}
use Rattle.fan.specs.Once.{At, NeverTwice}
use Rattle.fan.specs.Once.At.{first, later}
use Rattle.fan.specs.Walk.{Among, Leaves}
use Rattle.fan.specs.Walk.Among.{this, after}
use Rattle.fan.proofs.Exit.{LeavesFromRight, leaves?, one_exit_from_right}
use Rattle.fan.proofs.Geometry.{Geometry, InSight, left_end_exists, around, among_more, among_is_a_face, among_in_the_cell, other_is_another}
use Rattle.fan.proofs.Places.{at_the_only_place, never_twice_in_one, never_twice_joined}

-- the stand lies strictly inside the cell whose first side is f
pub record Start (F : Floor) (N : ℕ) (see : ℕ → Point) (f : ℕ) : Type 0 where
  pub is_a_face : f < N
  -- each side turns left around the stand
  pub turns : (e : ℕ) → Among F (suc (F.more f)) f e → 𝟘 <ℤ cross (see (F.right_end e)) (see (F.left_end e))

-- ---- the sides in their order

module _ (F : Floor) where
  around_is_among : (m e : ℕ) → Among F m e (around F m e)
  unfolding around
  around_is_among zero e = this
  around_is_among (suc m) e = after (around_is_among m (F.next e))

  -- the sides as a list
  pub at_is_among : {m e x i : ℕ} → At x (sides F.next m e) i → Among F m e x
  unfolding sides
  at_is_among {m = zero} {e = e} p = subst (Among F zero e) (sym (at_the_only_place p)) this
  at_is_among {m = suc m} first = this
  at_is_among {m = suc m} {e = e} (later p) = after (at_is_among {m = m} {e = F.next e} p)

  pub among_is_at : {m e x : ℕ} → Among F m e x → (i : ℕ) × At x (sides F.next m e) i
  unfolding sides
  among_is_at {m = zero} this = (0, first)
  among_is_at {m = suc m} this = (0, first)
  among_is_at {m = suc m} (after a) = let (i, p) = among_is_at a in (suc i, later p)

  pub some_side : (m e : ℕ) → 0 < length (sides F.next m e)
  unfolding sides
  some_side zero e = omega arith
  some_side (suc m) e = omega arith

  pub some_among? : {P : ℕ → Type 0} → ((e : ℕ) → Dec (P e)) → (m f : ℕ) → Dec ((e : ℕ) × Among F m f e × P e)
  some_among? {P} P? zero f = by_test (P? f)
    where
      by_test : Dec (P f) → Dec ((e : ℕ) × Among F zero f e × P e)
      by_test (yes p) = yes (f, this, p)
      by_test (no n) = no (λ s. none s.0 s.1 s.2)
        where
          none : (e : ℕ) → Among F zero f e → P e → ⊥
          none e this p = n p
  some_among? {P} P? (suc m) f = by_tests (P? f) (some_among? P? m (F.next f))
    where
      by_tests : Dec (P f) → Dec ((e : ℕ) × Among F m (F.next f) e × P e) → Dec ((e : ℕ) × Among F (suc m) f e × P e)
      by_tests (yes p) s = yes (f, this, p)
      by_tests (no n) (yes s) = yes (s.0, after s.1, s.2)
      by_tests (no n) (no k) = no (λ s. none s.0 s.1 s.2)
        where
          none : (e : ℕ) → Among F (suc m) f e → P e → ⊥
          none e this p = n p
          none e (after i) p = k (e, i, p)

module _ {F : Floor} {N M : ℕ} {see : ℕ → Point} {cell : ℕ → ℕ} (G : Geometry F N M see cell) where
  -- e and the m sides after it are different sides of one cell, and each turns left around the stand
  pub record Run (m e : ℕ) : Type 0 where
    pub is_a_face : e < N
    pub turns : (x : ℕ) → Among F m e x → 𝟘 <ℤ cross (see (F.right_end x)) (see (F.left_end x))
    pub not_round : m ≤ suc (F.more e)

  pub start_run : {f : ℕ} → Start F N see f → Run (suc (F.more f)) f
  start_run S = record { is_a_face = S.is_a_face; turns = S.turns; not_round = omega arith }

  module _ {m e : ℕ} (u : Run (suc m) e) where
    pub run_on : Run m (F.next e)
    run_on =
        record {
          is_a_face = G.next_is_a_face e u.is_a_face;
          turns = λ x i. u.turns x (after i);
          not_round = omega (arith, u.not_round, G.as_many_sides e u.is_a_face);
        }

    never_again : {x : ℕ} → Among F m (F.next e) x → x ≡ e → ⊥
    never_again i = other_is_another G u.is_a_face (among_more (omega (arith, u.not_round)) i)

    -- no direction leaves by the first and by a later one
    pub not_left_by_a_later_one : {x : ℕ} (d : Point) → Among F m (F.next e) x → LeavesFromRight F see d e → LeavesFromRight F see d x → ⊥
    not_left_by_a_later_one {x} d i l k =
        let first = u.is_a_face in
        never_again i (one_exit_from_right G d e x first (among_is_a_face G first (after i)) (sym (among_in_the_cell G first (after i))) l k)

  pub side_in_sight : {m e x : ℕ} → Run m e → Among F m e x → InSight G x (F.right_end x) (F.left_end x)
  side_in_sight {x = x} u i = record { is_a_face = among_is_a_face G u.is_a_face i; seen = a_seen_line_is_a_cone _ _ (u.turns x i) }

  -- no direction leaves by two of them
  pub sides_apart : (d : Point) (m e : ℕ) → Run m e → NeverTwice (LeavesFromRight F see d) (sides F.next m e)
  unfolding sides
  sides_apart d zero e u = never_twice_in_one
  sides_apart d (suc m) e u =
      never_twice_joined never_twice_in_one (sides_apart d m (F.next e) (run_on u))
      (λ x y i j p q l k. not_left_by_a_later_one u d (at_is_among F q) (subst (LeavesFromRight F see d) (at_the_only_place p) l) k)

  -- the last of the other sides ends where the side starts
  pub others_end_where_it_starts : {s : ℕ} → s < N → F.left_end (around F (F.more s) (F.next s)) ≡ F.right_end s
  others_end_where_it_starts {s} h =
      sym (G.next_starts _ (among_is_a_face G (G.next_is_a_face s h) (around_is_among F (F.more s) (F.next s)))) ∙ ap F.right_end (G.comes_round s h)

  -- ---- what the sides carry on

  module _ (P : ℕ → Type 0) where
    -- each of m + 1 sides from e on carries P from its right end to its left end
    abbrev pub Carried : ℕ → ℕ → Type 0
    Carried m e = (x : ℕ) → Among F m e x → P (F.right_end x) → P (F.left_end x)

    pub on_to_the_next : {e : ℕ} → e < N → P (F.left_end e) → P (F.right_end (F.next e))
    on_to_the_next {e} h p = rw (G.next_starts e h) p

    carried : {m e x : ℕ} → e < N → Carried m e → P (F.right_end e) → Among F m e x → P (F.right_end x)
    carried h c p this = p
    carried {e = e} h c p (after i) = carried (G.next_is_a_face e h) (λ x j. c x (after j)) (on_to_the_next h (c e this p)) i

    pub carried_to_the_last : {m e : ℕ} → e < N → Carried m e → P (F.right_end e) → P (F.left_end (around F m e))
    carried_to_the_last {m} {e} h c p = c _ (around_is_among F m e) (carried h c p (around_is_among F m e))

    carried_from_any : {m e x : ℕ} → e < N → Carried m e → Among F m e x → P (F.left_end x) → P (F.left_end (around F m e))
    unfolding around
    carried_from_any {m = zero} h c this p = p
    carried_from_any {m = suc m} {e = e} h c this p = carried_to_the_last (G.next_is_a_face e h) (λ x j. c x (after j)) (on_to_the_next h p)
    carried_from_any {m = suc m} {e = e} h c (after i) p = carried_from_any {m = m} (G.next_is_a_face e h) (λ x j. c x (after j)) i p

  -- ---- a direction that meets no corner

  module _ (n : ℕ) (corners : (e : ℕ) → e < N → F.right_end e < n) (d : Point) (is_direction : Direction d) (clear : (c : ℕ) → c < n → ¬ Meets d (see c)) where
    -- the corner c is on d's right
    abbrev pub OnTheRight : ℕ → Type 0
    OnTheRight c = 𝟘 <ℤ cross (see c) d

    pub passes_a_corner : {c : ℕ} → c < n → 𝟘 <ℤ dot (see c) (see c) → Passes d (see c)
    passes_a_corner h l = passes d _ (direction_has_length d is_direction) l (clear _ h)

    module _ {m e : ℕ} (u : Run m e) where
      passes_right_end : {x : ℕ} → Among F m e x → Passes d (see (F.right_end x))
      passes_right_end {x} i = passes_a_corner (corners x (among_is_a_face G u.is_a_face i)) (no_zero_right_limit _ _ (u.turns x i))

      passes_left_end : {x : ℕ} → Among F m e x → Passes d (see (F.left_end x))
      passes_left_end {x} i = passes_a_corner (left_end_exists G corners (among_is_a_face G u.is_a_face i)) (no_zero_limit _ _ (u.turns x i))

      -- where none of the sides is left by, each that starts on d's right ends there
      pub stays_on_the_right : ((x : ℕ) → Among F m e x → Leaves F see d x → ⊥) → (x : ℕ) → Among F m e x → OnTheRight (F.right_end x) → OnTheRight (F.left_end x)
      stays_on_the_right none x i h = by_passing (passes_left_end i)
        where
          by_passing : Passes d (see (F.left_end x)) → OnTheRight (F.left_end x)
          by_passing (left k) = k
          by_passing (right k) = absurd (none x i (record { right = h; left = right_turned_is_left _ _ k }))
          by_passing (away e₁ k) = absurd (not_left_both_ways _ d (before_a_corner_behind _ _ d (u.turns x i) e₁ k) (less_is_at_most h))

  -- ---- the stand strictly inside its cell

  module _ {f : ℕ} (S : Start F N see f) where
    abbrev OfTheCell : ℕ → Type 0
    OfTheCell e = Among F (suc (F.more f)) f e

    the_last : ℕ
    the_last = around F (suc (F.more f)) f

    the_last_ends_at_the_first : F.left_end the_last ≡ F.right_end f
    unfolding the_last around
    the_last_ends_at_the_first = others_end_where_it_starts S.is_a_face

    -- the corners do not go around to the left of the first one: the last side would end to the left of itself
    no_round : ((e : ℕ) → OfTheCell e → 𝟘 <ℤ cross (see (F.right_end f)) (see (F.right_end e)) → 𝟘 <ℤ cross (see (F.right_end f)) (see (F.left_end e))) → ⊥
    unfolding the_last around
    no_round turned =
        let start : 𝟘 <ℤ cross (see (F.right_end f)) (see (F.right_end (F.next f))) = rw (G.next_starts f S.is_a_face) (S.turns f this) in
        let second = G.next_is_a_face f S.is_a_face in
        let end = carried_to_the_last (λ c. 𝟘 <ℤ cross (see (F.right_end f)) (see c)) {m = F.more f} second (λ x i. turned x (after i)) start in
        let none : 𝟘 <ℤ 𝟘 = rw (the_last_ends_at_the_first, turns_nowhere) at end in
        clash_ℤ none (less_is_at_most none)

    module _ (n : ℕ) (corners : (e : ℕ) → e < N → F.right_end e < n) (d : Point) (is_direction : Direction d) (clear : (c : ℕ) → c < n → ¬ Meets d (see c)) where
      abbrev Right : ℕ → Type 0
      Right = OnTheRight n corners d is_direction clear

      module _ (none : (e : ℕ) → OfTheCell e → Leaves F see d e → ⊥) where
        stays : (e : ℕ) → OfTheCell e → Right (F.right_end e) → Right (F.left_end e)
        stays = stays_on_the_right n corners d is_direction clear (start_run S) none

        -- not all corners are on d's right
        first_is_not_on_the_right : Right (F.right_end f) → ⊥
        first_is_not_on_the_right h =
            no_round (λ e i k. order_right_of_a_direction_is_transitive _ _ _ d h (here i) (stays e i (here i)) k (S.turns e i))
          where
            here : {e : ℕ} → OfTheCell e → Right (F.right_end e)
            here i = carried Right S.is_a_face stays h i

        -- nor is any: the sides would carry it on to the first
        left_end_is_not_on_the_right : {e : ℕ} → OfTheCell e → Right (F.left_end e) → ⊥
        unfolding the_last
        left_end_is_not_on_the_right i h =
            first_is_not_on_the_right (rw the_last_ends_at_the_first at (carried_from_any Right S.is_a_face stays i h))

        right_end_is_on_the_left : {e : ℕ} → OfTheCell e → cross (see (F.right_end e)) d <ℤ 𝟘
        right_end_is_on_the_left {e} i = by_passing (passes_right_end n corners d is_direction clear (start_run S) i)
          where
            by_passing : Passes d (see (F.right_end e)) → cross (see (F.right_end e)) d <ℤ 𝟘
            by_passing (left k) = absurd (left_end_is_not_on_the_right i (stays e i k))
            by_passing (right k) = k
            by_passing (away e₁ k) = absurd (left_end_is_not_on_the_right i (after_a_corner_behind _ _ d (S.turns e i) e₁ k))

        left_end_is_not_right : {e : ℕ} → OfTheCell e → cross (see (F.left_end e)) d ≤ℤ 𝟘
        left_end_is_not_right {e} i = by_test (less_or_not 𝟘 (cross (see (F.left_end e)) d))
          where
            by_test : (𝟘 <ℤ cross (see (F.left_end e)) d) ⊎ (cross (see (F.left_end e)) d ≤ℤ 𝟘) → cross (see (F.left_end e)) d ≤ℤ 𝟘
            by_test (inl h) = absurd (left_end_is_not_on_the_right i h)
            by_test (inr h) = h

        -- but the corners do not go around on d's left either
        none_is_left_by : ⊥
        none_is_left_by =
            let first = right_end_is_on_the_left this in
            no_round (λ e i k. order_left_of_a_direction_is_transitive _ _ _ d first (right_end_is_on_the_left i) (left_end_is_not_right i) k (S.turns e i))

      -- some side of the cell is left by
      pub some_side_leaves : (e : ℕ) × OfTheCell e × Leaves F see d e
      some_side_leaves = by_search (some_among? F (leaves? F see d) (suc (F.more f)) f)
        where
          by_search : Dec ((e : ℕ) × OfTheCell e × Leaves F see d e) → (e : ℕ) × OfTheCell e × Leaves F see d e
          by_search (yes s) = s
          by_search (no n) = absurd (none_is_left_by (λ e i l. n (e, i, l)))

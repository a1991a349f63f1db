-- No line of sight enters a cell twice (document 01, "Expansion"): neither a walk nor a way down the expansion's tree. Each names the faces by which its
-- cells are left, in order; their cells are all different.
use mathlib.Core.Bool.{Bool, true, false}
use mathlib.Core.List.{List, [], ◌∷◌}
use mathlib.Core.Path.{◌≡◌, refl, sym, subst}
use Prim.Native.Nat.{ℕ, zero, suc, ◌<◌}
use native.Mathlib.Omega.{arith}
use lib.ListN.{length, get_or}
use Rattle.plane.specs.Side.{Point}
use Rattle.plane.specs.Cone.{Holds}
use Rattle.plane.proofs.Found.{earlier_is_transitive}
use Rattle.plane.proofs.Cones.{cone_is_never_empty}
use Rattle.fan.specs.Sight.{Floor, Sight, follow, hand_on}
use Rattle.fan.specs.Sight.Sight.{row, pass, both, cut}
use Rattle.fan.specs.Walk.{Leaves, Walks}
use Rattle.fan.specs.Walk.Walks.{ended, crossed}
use Rattle.fan.proofs.Exit.{Before, later_exit_is_of_another_cell, handed_is_a_face, handed_is_later}
use Rattle.fan.proofs.Geometry.{Geometry, Seen, InSight}
use Rattle.fan.proofs.HandOn.{HandedOn, over_hands, seen_is_exit}
use Rattle.fan.proofs.Trees.{follow_a_wall, follow_too_far, follow_across}

-- the cells of the faces of a list are all different
abbrev pub AllDifferent : (ℕ → ℕ) → List ℕ → Type 0
AllDifferent cell p = (i j : ℕ) → i < j → j < length p → cell (get_or p i 0) ≡ cell (get_or p j 0) → ⊥

-- ---- exits in their order

module _ (F : Floor) (N : ℕ) (see : ℕ → Point) (d : Point) where
  -- after f come the faces of a list, each an exit for d, each crossed later than the one before
  pub data InOrder : ℕ → List ℕ → Type 0 where
    no_more : {f : ℕ} → InOrder f []
    and_then : {f e : ℕ} {p : List ℕ} → e < N → Leaves F see d e → Before F see d f e → InOrder e p → InOrder f (e ∷ p)

module _ {F : Floor} {N M : ℕ} {see : ℕ → Point} {cell : ℕ → ℕ} (G : Geometry F N M see cell) where
  module _ (d : Point) where
    -- each of them is crossed later than f
    pub all_later :
        {f : ℕ} {p : List ℕ} → Leaves F see d f → InOrder F N see d f p → (j : ℕ) → j < length p →
        (get_or p j 0 < N) × Leaves F see d (get_or p j 0) × Before F see d f (get_or p j 0)
    all_later x no_more j l = absurd (omega arith)
    all_later x (and_then h y b o) zero l = (h, y, b)
    all_later x (and_then h y b o) (suc j) l =
        let (k, z, c) = all_later y o j (omega arith) in
        (k, z, earlier_is_transitive d _ _ _ _ _ _ x y z b c)

    pub exits_in_order_differ : {f : ℕ} {p : List ℕ} → f < N → Leaves F see d f → InOrder F N see d f p → AllDifferent cell (f ∷ p)
    exits_in_order_differ h x o zero zero l m = absurd (omega arith)
    exits_in_order_differ {f} {p} h x o zero (suc j) l m =
        let (k, y, b) = all_later x o j (omega arith) in
        later_exit_is_of_another_cell G d f (get_or p j 0) h k x y b
    exits_in_order_differ h x o (suc i) zero l m = absurd (omega arith)
    exits_in_order_differ h x no_more (suc i) (suc j) l m = absurd (omega arith)
    exits_in_order_differ h x (and_then k y b o) (suc i) (suc j) l m = exits_in_order_differ k y o i j (omega arith) (omega arith)

    -- ---- the walk

    -- the faces by which a walk leaves its cells, after the first
    pub onward : {f w : ℕ} → Walks F see d f w → List ℕ
    onward (ended e) = []
    onward (crossed {e} free on x k) = e ∷ onward k

    onward_in_order : {f w : ℕ} → f < N → Leaves F see d f → (k : Walks F see d f w) → InOrder F N see d f (onward k)
    unfolding onward
    onward_in_order h x (ended e) = no_more
    onward_in_order h x (crossed free on y k) =
        let g = handed_is_a_face G h free on in
        and_then g y (handed_is_later G h free on d y) (onward_in_order g y k)

    pub no_walk_enters_a_cell_twice : {f w : ℕ} → f < N → Leaves F see d f → (k : Walks F see d f w) → AllDifferent cell (f ∷ onward k)
    no_walk_enters_a_cell_twice h x k = exits_in_order_differ h x (onward_in_order h x k)

-- ---- the tree

-- a way down the tree to a row: the first face, and the faces after it
pub data WayDown : Sight → ℕ → List ℕ → Type 0 where
  at_a_row : {f r l k : ℕ} → WayDown (row f r l k) f []
  across : {f r l e : ℕ} {t : Sight} {p : List ℕ} → WayDown t e p → WayDown (pass f r l t) f (e ∷ p)
  right_of_the_split : {e : ℕ} {t u : Sight} {p : List ℕ} → WayDown t e p → WayDown (both t u) e p
  left_of_the_split : {e : ℕ} {t u : Sight} {p : List ℕ} → WayDown u e p → WayDown (both t u) e p

module _ {F : Floor} {N M : ℕ} {see : ℕ → Point} {cell : ℕ → ℕ} (G : Geometry F N M see cell) where
  -- some direction between the limits takes the line of f and then those of a list
  abbrev Taken : ℕ → ℕ → ℕ → List ℕ → Type 0
  Taken f r l p = (d : Point) × Holds (see r) (see l) d × InOrder F N see d f p

  -- every way down the expansion of f's line begins at f, and some direction takes it
  abbrev AllTaken : ℕ → Type 0
  AllTaken n = (f r l : ℕ) → InSight G f r l → (e : ℕ) (p : List ℕ) → WayDown (follow F n f r l) e p → (e ≡ f) × Taken f r l p

  from_a_row : {f r l e k : ℕ} {p : List ℕ} → Seen G f r l → WayDown (row f r l k) e p → (e ≡ f) × Taken f r l p
  from_a_row s at_a_row = let (d, k) = cone_is_never_empty _ _ _ _ s in (refl, (d, k, no_more))

  without_crossing : AllTaken zero
  without_crossing f r l s e p w = by_end (F.ends f) refl
    where
      by_end : (b : Bool) → F.ends f ≡ b → (e ≡ f) × Taken f r l p
      by_end true q = from_a_row s.seen (rw (follow_a_wall F zero f r l q) at w)
      by_end false free = let n : WayDown cut e p = rw (follow_too_far F f r l free) at w in elim n [ ]

  with_a_crossing : (n : ℕ) → AllTaken n → AllTaken (suc n)
  with_a_crossing n before f r l s e p w = by_end (F.ends f) refl
    where
      -- what is seen beyond f: after f, some direction takes every way down it
      Beyond : Sight → Type 0
      Beyond t = (c : ℕ) (q : List ℕ) → WayDown t c q → Taken f r l (c ∷ q)

      over_a_split : (t u : Sight) → Beyond t → Beyond u → Beyond (both t u)
      over_a_split t u h k c q (right_of_the_split v) = h c q v
      over_a_split t u h k c q (left_of_the_split v) = k c q v

      by_a_line : (g r' l' : ℕ) → HandedOn G f r l g r' l' → Beyond (follow F n g r' l')
      by_a_line g r' l' on c q v =
          let (same, (d, k, o)) = before g r' l' on.part.in_sight c q v in
          let onward = and_then on.part.in_sight.is_a_face (on.exit d k) (on.later d k) o in
          (d, on.within d k, subst (λ (x : ℕ). InOrder F N see d f (x ∷ q)) (sym same) onward)

      over_a_passage : {c : ℕ} {q : List ℕ} → F.ends f ≡ false → WayDown (pass f r l (hand_on F n (F.back f) r l)) c q → (c ≡ f) × Taken f r l q
      over_a_passage free (across v) = (refl, over_hands G s free n Beyond over_a_split by_a_line _ _ v)

      by_end : (b : Bool) → F.ends f ≡ b → (e ≡ f) × Taken f r l p
      by_end true q = from_a_row s.seen (rw (follow_a_wall F (suc n) f r l q) at w)
      by_end false free = over_a_passage free (rw (follow_across F n f r l free) at w)

  all_taken : (n : ℕ) → AllTaken n
  all_taken zero = without_crossing
  all_taken (suc n) = with_a_crossing n (all_taken n)

  pub no_line_of_sight_enters_a_cell_twice : (n f r l : ℕ) → InSight G f r l → (e : ℕ) (p : List ℕ) → WayDown (follow F n f r l) e p → AllDifferent cell (e ∷ p)
  no_line_of_sight_enters_a_cell_twice n f r l s e p w =
      let (same, (d, k, o)) = all_taken n f r l s e p w in
      rw same (exits_in_order_differ G d s.is_a_face (seen_is_exit G s.seen d k) o)

  -- nor a cell whose exit b is crossed before f by every direction between the limits
  pub no_line_of_sight_enters_a_cell_left_before :
      (n f r l b : ℕ) → InSight G f r l → b < N → ((d : Point) → Holds (see r) (see l) d → Leaves F see d b × Before F see d b f) →
      (e : ℕ) (p : List ℕ) → WayDown (follow F n f r l) e p → AllDifferent cell (b ∷ e ∷ p)
  no_line_of_sight_enters_a_cell_left_before n f r l b s h left_before e p w =
      let (same, (d, k, o)) = all_taken n f r l s e p w in
      let (x, earlier) = left_before d k in
      rw same (exits_in_order_differ G d h x (and_then s.is_a_face (seen_is_exit G s.seen d k) earlier o))

-- The expansion's fuel suffices (document 01, "Expansion": no line of sight enters a cell twice). For one direction d, the cells whose exit is crossed
-- later than a face's line are counted; each crossing leaves one fewer.
use mathlib.Core.Bool.{Bool, true, false}
use mathlib.Core.Path.{◌≡◌, refl, sym}
use Prim.Native.Nat.{ℕ, zero, suc, ◌-◌, ◌≤◌, ◌<◌}
use native.Mathlib.Decide.{ℕ_discrete, map_dec}
use native.Mathlib.Omega.{arith}
use Rattle.plane.specs.Side.{Point}
use Rattle.plane.specs.Cone.{Holds}
use Rattle.plane.proofs.Found.{earlier_is_transitive}
use Rattle.plane.proofs.Cones.{cone_is_never_empty}
use Rattle.fan.specs.Sight.{Floor, follow, Whole}
use Rattle.fan.specs.Sight.Whole.{whole_row, whole_pass, whole_both}
use Rattle.fan.proofs.Count.{some_below?, count, count_grows_by_one, count_misses_one, count_misses_two}
use Rattle.fan.specs.Walk.{Leaves}
use Rattle.fan.proofs.Exit.{Before, less?, leaves?, later_exit_is_of_another_cell}
use Rattle.fan.proofs.Geometry.{Geometry, InSight}
use Rattle.fan.proofs.HandOn.{HandedOn, over_hands, seen_is_exit}
use Rattle.fan.proofs.Trees.{follow_a_wall, follow_across}

-- ---- the cells left later

module _ (F : Floor) (see : ℕ → Point) (cell : ℕ → ℕ) (d : Point) where
  before? : (f e : ℕ) → Dec (Before F see d f e)
  before? f e = map_dec (λ h. record { earlier = h }) (λ b. b.earlier) (less? _ _)

  -- e is the exit of cell c, crossed later than f
  pub record LaterExit (f c e : ℕ) : Type 0 where
    pub in_the_cell : cell e ≡ c
    pub exit : Leaves F see d e
    pub later : Before F see d f e

  later_exit? : (f c e : ℕ) → Dec (LaterExit f c e)
  later_exit? f c e = by_tests (ℕ_discrete (cell e) c) (leaves? F see d e) (before? f e)
    where
      by_tests : Dec (cell e ≡ c) → Dec (Leaves F see d e) → Dec (Before F see d f e) → Dec (LaterExit f c e)
      by_tests (yes i) (yes x) (yes b) = yes (record { in_the_cell = i; exit = x; later = b })
      by_tests (yes i) (yes x) (no b) = no (λ s. b s.later)
      by_tests (yes i) (no x) b = no (λ s. x s.exit)
      by_tests (no i) x b = no (λ s. i s.in_the_cell)

  module _ (N : ℕ) where
    -- cell c is left for d, later than the line of f
    abbrev pub LeftLater : ℕ → ℕ → Type 0
    LeftLater f c = (e : ℕ) × (e < N) × LaterExit f c e

    left_later? : (f c : ℕ) → Dec (LeftLater f c)
    left_later? f c = some_below? (later_exit? f c) N

    -- the number of those cells among M
    pub remaining : ℕ → ℕ → ℕ
    remaining M f = count (left_later? f) M

module _ {F : Floor} {N M : ℕ} {see : ℕ → Point} {cell : ℕ → ℕ} (G : Geometry F N M see cell) where
  -- a cell's own exit is not crossed later than itself
  not_left_again : (d : Point) {f : ℕ} → f < N → Leaves F see d f → LeftLater F see cell d N f (cell f) → ⊥
  not_left_again d {f} h x s =
      let y = s.2 in
      later_exit_is_of_another_cell G d f s.0 h s.1 x y.exit y.later (sym y.in_the_cell)

  -- ---- a crossing leaves one fewer

  -- of two exits, the cell of the later one is left later than the earlier, and not later than itself
  pub one_fewer :
      (d : Point) {f e : ℕ} → e < N → Leaves F see d f → Leaves F see d e → Before F see d f e →
      remaining F see cell d N M e < remaining F see cell d N M f
  unfolding remaining
  one_fewer d {f} {e} h xf xe b =
      count_grows_by_one (left_later? F see cell d N e) (left_later? F see cell d N f) M also_later
      (cell e) (G.cell_exists e h) (not_left_again d h xe) (e, h, record { in_the_cell = refl; exit = xe; later = b })
    where
      also_later : (c : ℕ) → c < M → LeftLater F see cell d N e c → LeftLater F see cell d N f c
      also_later c k s =
          let y = s.2 in
          (s.0, s.1, record { in_the_cell = y.in_the_cell; exit = y.exit; later = earlier_is_transitive d _ _ _ _ _ _ xf xe y.exit b y.later })

  -- ---- the fuel

  -- for every direction between the limits, at most n cells are left later than f
  abbrev pub Enough : ℕ → ℕ → ℕ → ℕ → Type 0
  Enough n f r l = (d : Point) → Holds (see r) (see l) d → remaining F see cell d N M f ≤ n

  module _ {f r l e r' l' : ℕ} (s : InSight G f r l) (on : HandedOn G f r l e r' l') where
    fewer : (d : Point) → Holds (see r') (see l') d → remaining F see cell d N M e < remaining F see cell d N M f
    fewer d k = one_fewer d on.part.in_sight.is_a_face (seen_is_exit G s.seen d (on.within d k)) (on.exit d k) (on.later d k)

    enough_beyond : {n : ℕ} → Enough (suc n) f r l → Enough n e r' l'
    enough_beyond en d k = omega (arith, en d (on.within d k), fewer d k)

    -- a cone is never empty, so there is fuel where a line is handed on
    not_without_fuel : Enough zero f r l → ⊥
    not_without_fuel en =
        let (d, k) = cone_is_never_empty _ _ _ _ on.part.in_sight.seen in
        omega (arith, en d (on.within d k), fewer d k)

  abbrev Suffices : ℕ → Type 0
  Suffices n = (f r l : ℕ) → InSight G f r l → Enough n f r l → Whole (follow F n f r l)

  without_fuel : Suffices zero
  without_fuel f r l s en = by_end (F.ends f) refl
    where
      by_end : (b : Bool) → F.ends f ≡ b → Whole (follow F zero f r l)
      by_end true e = rw (follow_a_wall F zero f r l e) whole_row
      by_end false free = absurd (over_hands G s free zero (λ t. ⊥) (λ t u h k. h) (λ e r' l' on. not_without_fuel s on en))

  with_fuel : (n : ℕ) → Suffices n → Suffices (suc n)
  with_fuel n before f r l s en = by_end (F.ends f) refl
    where
      by_end : (b : Bool) → F.ends f ≡ b → Whole (follow F (suc n) f r l)
      by_end true e = rw (follow_a_wall F (suc n) f r l e) whole_row
      by_end false free =
          rw (follow_across F n f r l free)
          (whole_pass (over_hands G s free n Whole (λ t u h k. whole_both h k) (λ e r' l' on. before e r' l' on.part.in_sight (enough_beyond s on en))))

  pub fuel_suffices : (n f r l : ℕ) → InSight G f r l → Enough n f r l → Whole (follow F n f r l)
  fuel_suffices zero = without_fuel
  fuel_suffices (suc n) = with_fuel n (fuel_suffices n)

  -- ---- the start

  module _ {f : ℕ} (h : f < N) where
    -- with its own two ends as limits: the cell of f itself is not left later
    pub fuel_inside : Enough (M - 1) f (F.right_end f) (F.left_end f)
    unfolding remaining
    fuel_inside d x =
        let less = count_misses_one (left_later? F see cell d N f) M (cell f) (G.cell_exists f h) (not_left_again d h x) in
        omega arith

    -- nor is the cell of a face that every such direction leaves by before f
    pub fuel_behind_a_line :
        {g : ℕ} → g < N → ((d : Point) → Leaves F see d f → Leaves F see d g × Before F see d g f) → Enough (M - 2) f (F.right_end f) (F.left_end f)
    unfolding remaining
    fuel_behind_a_line {g} k behind d x =
        count_misses_two (left_later? F see cell d N f) M (cell f) (cell g) (G.cell_exists f h) (G.cell_exists g k)
        (λ same. later_exit_is_of_another_cell G d g f k h (behind d x).0 x (behind d x).1 (sym same)) (not_left_again d h x) not_left_after
      where
        not_left_after : LeftLater F see cell d N f (cell g) → ⊥
        not_left_after s =
            let y = s.2 in
            let b = behind d x in
            later_exit_is_of_another_cell G d g s.0 k s.1 b.0 y.exit
            (earlier_is_transitive d _ _ _ _ _ _ b.0 x y.exit b.1 y.later) (sym y.in_the_cell)

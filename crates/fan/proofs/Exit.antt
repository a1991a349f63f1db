-- A cell's exit for a direction d is the side by which d leaves it: at most one. What is entered by crossing a line is left strictly later, so a cell left
-- later is another cell.
use mathlib.Core.Bool.{false}
use mathlib.Core.Logic.{◌⊎◌, inl, inr}
use mathlib.Core.Path.{◌≡◌, sym, ◌∙◌, ap, subst}
use Prim.Native.Nat.{ℕ, ◌<◌}
use native.Mathlib.Decide.{ℕ_discrete}
use lib.IntN.{ℤ}
use lib.Signed.{◌<ℤ◌, ◌≤ℤ◌, clash_ℤ}
use Rattle.exact.proofs.Order.{𝟘, less_or_not, less_is_at_most}
use Rattle.plane.specs.Side.{Point}
use Rattle.plane.specs.Cone.{cross, Beyond, Earlier}
use Rattle.plane.proofs.Found.{not_left_both_ways, opposite_sides_share_nothing, left_later_by_the_right_line, left_later_by_the_left_line, left_later_by_a_line_beyond, no_line_is_earlier_than_itself}
use Rattle.fan.specs.Sight.{Floor}
use Rattle.fan.specs.Walk.{Leaves, Other}
use Rattle.fan.proofs.Geometry.{Geometry, other_is_a_face, other_in_the_cell, other_is_another, next_of_next_is_another, convex_at_the_left}

pub less? : (a b : ℤ) → Dec (a <ℤ b)
less? a b = by_test (less_or_not a b)
  where
    by_test : (a <ℤ b) ⊎ (b ≤ℤ a) → Dec (a <ℤ b)
    by_test (inl h) = yes h
    by_test (inr k) = no (λ h. clash_ℤ h k)

module _ (F : Floor) (see : ℕ → Point) (d : Point) where
  pub leaves? : (e : ℕ) → Dec (Leaves F see d e)
  leaves? e = by_tests (less? 𝟘 (cross (see (F.right_end e)) d)) (less? 𝟘 (cross d (see (F.left_end e))))
    where
      by_tests : Dec (𝟘 <ℤ cross (see (F.right_end e)) d) → Dec (𝟘 <ℤ cross d (see (F.left_end e))) → Dec (Leaves F see d e)
      by_tests (yes r) (yes l) = yes (record { right = r; left = l })
      by_tests (yes r) (no l) = no (λ x. l x.left)
      by_tests (no r) l = no (λ x. r x.right)

  -- d leaves by the line of e, or meets its right end
  pub record LeavesFromRight (e : ℕ) : Type 0 where
    pub right : 𝟘 ≤ℤ cross (see (F.right_end e)) d
    pub left : 𝟘 <ℤ cross d (see (F.left_end e))

  pub leaves_from_right : {e : ℕ} → Leaves F see d e → LeavesFromRight e
  leaves_from_right x = record { right = less_is_at_most x.right; left = x.left }

  -- d crosses the line of f strictly before the line of e
  abbrev pub Before : ℕ → ℕ → Type 0
  Before f e = Earlier d (see (F.right_end f)) (see (F.left_end f)) (see (F.right_end e)) (see (F.left_end e))

module _ {F : Floor} {N M : ℕ} {see : ℕ → Point} {cell : ℕ → ℕ} (G : Geometry F N M see cell) where
  -- ---- at most one exit

  -- d does not leave by a side and by the next
  not_by_the_next : (d : Point) {f e : ℕ} → f < N → e ≡ F.next f → LeavesFromRight F see d f → LeavesFromRight F see d e → ⊥
  not_by_the_next d {f} {e} h p xf xe =
      let start : F.right_end e ≡ F.left_end f = ap F.right_end p ∙ G.next_starts f h in
      not_left_both_ways (see (F.left_end f)) d xf.left (rw start at xe.right)

  -- a cell has at most one exit for one direction, even where the right ends count
  pub one_exit_from_right : (d : Point) (f e : ℕ) → f < N → e < N → cell f ≡ cell e → LeavesFromRight F see d f → LeavesFromRight F see d e → e ≡ f
  one_exit_from_right d f e hf he same xf xe = by_tests (ℕ_discrete e f) (ℕ_discrete e (F.next f)) (ℕ_discrete f (F.next e))
    where
      by_tests : Dec (e ≡ f) → Dec (e ≡ F.next f) → Dec (f ≡ F.next e) → e ≡ f
      by_tests (yes p) a b = p
      by_tests (no p) (yes a) b = absurd (not_by_the_next d hf a xf xe)
      by_tests (no p) (no a) (yes b) = absurd (not_by_the_next d he b xe xf)
      by_tests (no p) (no a) (no b) =
          absurd (opposite_sides_share_nothing _ _ _ _ d
          (G.convex f e hf he same p a)
          (convex_at_the_left G f e hf he same p (λ q. b (sym q)))
          (G.convex e f he hf (sym same) (λ q. p (sym q)) b)
          (convex_at_the_left G e f he hf (sym same) (λ q. p (sym q)) (λ q. a (sym q)))
          xf.right xf.left xe.right xe.left)

  pub one_exit : (d : Point) (f e : ℕ) → f < N → e < N → cell f ≡ cell e → Leaves F see d f → Leaves F see d e → e ≡ f
  one_exit d f e hf he same xf xe = one_exit_from_right d f e hf he same (leaves_from_right F see d xf) (leaves_from_right F see d xe)

  -- of two exits, one crossed before the other, the cells differ
  pub later_exit_is_of_another_cell : (d : Point) (f e : ℕ) → f < N → e < N → Leaves F see d f → Leaves F see d e → Before F see d f e → cell f ≡ cell e → ⊥
  later_exit_is_of_another_cell d f e hf he xf xe b same =
      no_line_is_earlier_than_itself d (see (F.right_end f)) (see (F.left_end f))
      (subst (λ (x : ℕ). Before F see d f x) (one_exit d f e hf he same xf xe) b)

  -- ---- later

  module _ {f e : ℕ} (h : f < N) (free : F.ends f ≡ false) (on : Other F (F.back f) e) where
    pub handed_is_a_face : e < N
    handed_is_a_face = other_is_a_face G (G.back_is_a_face f h free) on

    -- what is handed on is crossed strictly later: both its ends lie on the line entered or beyond it, and not both on it
    pub handed_is_later : (d : Point) → Leaves F see d e → Before F see d f e
    handed_is_later d x = by_tests (ℕ_discrete e (F.next g)) (ℕ_discrete (F.next e) g)
      where
        g : ℕ
        g = F.back f

        kg : g < N
        kg = G.back_is_a_face f h free

        same : cell g ≡ cell e
        same = sym (other_in_the_cell G kg on)

        not_entered : e ≡ g → ⊥
        not_entered = other_is_another G kg on

        -- beyond the line entered, seen from the side that it is entered from
        seen_from_f : {c : ℕ} → Beyond (see (F.left_end g)) (see (F.right_end g)) (see c) → Beyond (see (F.right_end f)) (see (F.left_end f)) (see c)
        seen_from_f b = rw (G.back_starts f h free, G.back_finishes f h free) at b

        starts_beyond : (e ≡ F.next g → ⊥) → Beyond (see (F.right_end f)) (see (F.left_end f)) (see (F.right_end e))
        starts_beyond n = seen_from_f (G.convex g e kg handed_is_a_face same not_entered n)

        finishes_beyond : (F.next e ≡ g → ⊥) → Beyond (see (F.right_end f)) (see (F.left_end f)) (see (F.left_end e))
        finishes_beyond n = seen_from_f (convex_at_the_left G g e kg handed_is_a_face same not_entered n)

        by_tests : Dec (e ≡ F.next g) → Dec (F.next e ≡ g) → Before F see d f e
        by_tests (yes p) n =
            let start : F.right_end e ≡ F.right_end f = ap F.right_end p ∙ G.next_starts g kg ∙ G.back_finishes f h free in
            let not_the_last : F.next e ≡ g → ⊥ = λ q. next_of_next_is_another G kg (sym (ap F.next p) ∙ q) in
            rw start (left_later_by_the_right_line _ _ _ d (rw start at x.right) (finishes_beyond not_the_last))
        by_tests (no p) (yes q) =
            let finish : F.left_end e ≡ F.left_end f = sym (G.next_starts e handed_is_a_face) ∙ ap F.right_end q ∙ G.back_starts f h free in
            rw finish (left_later_by_the_left_line _ _ _ d (rw finish at x.left) (starts_beyond p))
        by_tests (no p) (no q) = left_later_by_a_line_beyond _ _ _ _ d (starts_beyond p) (finishes_beyond q) x

-- What the expansion's floor is in the plane: each face is a line from its right end to its left end, seen from the stand; the sides of a cell follow each
-- other in one round, and every corner of a cell but a side's own two lies strictly beyond that side. The laws of sight are proved from this alone; a
-- checked plan under any setting has it.
use mathlib.Core.Bool.{false}
use mathlib.Core.Path.{◌≡◌, refl, sym, ◌∙◌, ap, subst}
use Prim.Native.Nat.{ℕ, zero, suc, ◌≤◌, ◌<◌}
use native.Mathlib.Decide.{ℕ_discrete}
use native.Mathlib.Omega.{arith}
use lib.Signed.{◌≤ℤ◌}
use Rattle.exact.proofs.Order.{𝟘}
use Rattle.plane.specs.Side.{Point}
use Rattle.plane.specs.Cone.{cross, Between, Cone, Beyond}
use Rattle.plane.proofs.Found.{not_beyond_both_ways}
use Rattle.fan.specs.Sight.{Floor}
use Rattle.fan.specs.Sight.Place.{between, right_of_r, left_of_l}
use Rattle.fan.specs.Walk.{Among, Other}
use Rattle.fan.specs.Walk.Among.{this, after}

-- the side that is m sides after e
unfoldable pub around : Floor → ℕ → ℕ → ℕ
around F zero e = e
around F (suc m) e = around F m (F.next e)

-- N faces of M cells; `see c` is corner c less the stand
pub record Geometry (F : Floor) (N M : ℕ) (see : ℕ → Point) (cell : ℕ → ℕ) : Type 0 where
  -- the face beyond a free face, and the sides of a cell
  pub back_is_a_face : (f : ℕ) → f < N → F.ends f ≡ false → F.back f < N
  pub next_is_a_face : (g : ℕ) → g < N → F.next g < N
  pub cell_exists : (g : ℕ) → g < N → cell g < M
  pub next_in_the_cell : (g : ℕ) → g < N → cell (F.next g) ≡ cell g
  -- a side starts where the one before it ends
  pub next_starts : (g : ℕ) → g < N → F.right_end (F.next g) ≡ F.left_end g
  -- three sides or more, as many for each side of a cell; the others of a cell's sides in their order are not the side itself, which comes after the last
  pub three_sides : (g : ℕ) → g < N → 0 < F.more g
  pub as_many_sides : (g : ℕ) → g < N → F.more (F.next g) ≡ F.more g
  pub never_itself : (g : ℕ) → g < N → Other F g g → ⊥
  pub comes_round : (g : ℕ) → g < N → F.next (around F (F.more g) (F.next g)) ≡ g
  -- the corner at which another side of the cell starts, unless g ends there, lies strictly beyond g, seen from outside
  pub convex :
      (g h : ℕ) → g < N → h < N → cell g ≡ cell h → (h ≡ g → ⊥) → (h ≡ F.next g → ⊥) →
      Beyond (see (F.left_end g)) (see (F.right_end g)) (see (F.right_end h))
  -- the face on the other side has the same two ends reversed
  pub back_starts : (f : ℕ) → f < N → F.ends f ≡ false → F.right_end (F.back f) ≡ F.left_end f
  pub back_finishes : (f : ℕ) → f < N → F.ends f ≡ false → F.left_end (F.back f) ≡ F.right_end f
  -- the three cases of the fan
  pub is_between : (v r l : ℕ) → F.place v r l ≡ between → Between (see r) (see l) (see v)
  pub is_right : (v r l : ℕ) → F.place v r l ≡ right_of_r → cross (see r) (see v) ≤ℤ 𝟘
  pub is_left : (v r l : ℕ) → F.place v r l ≡ left_of_l → cross (see v) (see l) ≤ℤ 𝟘

-- among more sides is also what is among fewer
pub among_more : {F : Floor} {m k f e : ℕ} → m ≤ k → Among F m f e → Among F k f e
among_more h this = this
among_more {k = zero} h (after i) = absurd (omega arith)
among_more {k = suc k} h (after i) = after (among_more {k = k} (omega arith) i)

module _ {F : Floor} {N M : ℕ} {see : ℕ → Point} {cell : ℕ → ℕ} (G : Geometry F N M see cell) where
  -- the line of face f is seen, and the limits r and l lie on it in their order
  abbrev pub Seen : ℕ → ℕ → ℕ → Type 0
  Seen f r l = Cone (see (F.right_end f)) (see (F.left_end f)) (see r) (see l)

  pub record InSight (f r l : ℕ) : Type 0 where
    pub is_a_face : f < N
    pub seen : Seen f r l

  -- each corner at which a face ends is one at which another starts
  pub left_end_exists : {n f : ℕ} → ((e : ℕ) → e < N → F.right_end e < n) → f < N → F.left_end f < n
  left_end_exists {n} {f} corners h = subst (λ (c : ℕ). c < n) (G.next_starts f h) (corners (F.next f) (G.next_is_a_face f h))

  -- ---- the sides of a cell

  pub among_is_a_face : {m f e : ℕ} → f < N → Among F m f e → e < N
  among_is_a_face h this = h
  among_is_a_face h (after i) = among_is_a_face (G.next_is_a_face _ h) i

  pub among_in_the_cell : {m f e : ℕ} → f < N → Among F m f e → cell e ≡ cell f
  among_in_the_cell h this = refl
  among_in_the_cell h (after i) = among_in_the_cell (G.next_is_a_face _ h) i ∙ G.next_in_the_cell _ h

  pub other_is_a_face : {g e : ℕ} → g < N → Other F g e → e < N
  other_is_a_face h i = among_is_a_face (G.next_is_a_face _ h) i

  pub other_in_the_cell : {g e : ℕ} → g < N → Other F g e → cell e ≡ cell g
  other_in_the_cell h i = among_in_the_cell (G.next_is_a_face _ h) i ∙ G.next_in_the_cell _ h

  -- a side comes round no earlier
  pub other_is_another : {g e : ℕ} → g < N → Other F g e → e ≡ g → ⊥
  other_is_another {g} h i p = G.never_itself g h (subst (λ (x : ℕ). Other F g x) p i)

  next_is_another : {g : ℕ} → g < N → F.next g ≡ g → ⊥
  next_is_another h = other_is_another h this

  pub next_of_next_is_another : {g : ℕ} → g < N → F.next (F.next g) ≡ g → ⊥
  next_of_next_is_another {g} h = other_is_another h (among_more (G.three_sides g h) (after this))

  -- no two sides of a cell have the same next side: each would lie beyond the other, where both end
  next_is_of_one : {g h : ℕ} → g < N → h < N → cell g ≡ cell h → F.next g ≡ F.next h → h ≡ g
  next_is_of_one {g} {h} kg kh same p = by_tests (ℕ_discrete h g) (ℕ_discrete h (F.next g)) (ℕ_discrete g (F.next h))
    where
      one_end : F.left_end g ≡ F.left_end h
      one_end = sym (G.next_starts g kg) ∙ ap F.right_end p ∙ G.next_starts h kh

      by_tests : Dec (h ≡ g) → Dec (h ≡ F.next g) → Dec (g ≡ F.next h) → h ≡ g
      by_tests (yes q) a b = q
      by_tests (no q) (yes a) b = absurd (next_is_another kh (sym p ∙ sym a))
      by_tests (no q) (no a) (yes b) = absurd (next_is_another kg (p ∙ sym b))
      by_tests (no q) (no a) (no b) =
          absurd (not_beyond_both_ways (see (F.left_end g)) (see (F.right_end g)) (see (F.right_end h)) (G.convex g h kg kh same q a)
          (rw one_end (G.convex h g kh kg (sym same) (λ e. q (sym e)) b)))

  -- the corner at which another side of the cell ends, unless g starts there, lies strictly beyond g as well
  pub convex_at_the_left :
      (g h : ℕ) → g < N → h < N → cell g ≡ cell h → (h ≡ g → ⊥) → (F.next h ≡ g → ⊥) →
      Beyond (see (F.left_end g)) (see (F.right_end g)) (see (F.left_end h))
  convex_at_the_left g h kg kh same other start =
      rw (← G.next_starts h kh)
      (G.convex g (F.next h) kg (G.next_is_a_face h kh) (same ∙ sym (G.next_in_the_cell h kh)) start (λ p. other (next_is_of_one kg kh same (sym p))))

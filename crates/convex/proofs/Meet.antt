-- Two convex shapes that no side separates have a point in common (document 02, A7): by Helly, first for two sides of one with all sides of the other,
-- then for the inside of the other with all sides of the one.
use mathlib.Core.List.{List, [], ◌∷◌}
use mathlib.Core.Path.{◌≡◌, subst}
use Prim.Native.Nat.{ℕ, ◌<◌}
use lib.IntN.{ℤ, pos, ◌+ℤ◌, ◌-ℤ◌, ◌*ℤ◌}
use lib.Signed.{◌<ℤ◌, ◌≤ℤ◌}
use Rattle.exact.proofs.Order.{𝟘}
use Rattle.exact.proofs.Solver.{Expr, solve, ◌⊕◌, ◌⊖◌, ◌⊗◌}
use Rattle.exact.proofs.Solver.Expr.{var, lit}
use Rattle.exact.proofs.Certificate.{prove, ◌≺◌, ◌≼◌, ◌⊞◌, ◌⊠◌}
use Rattle.exact.proofs.Certificate.Cert.{given, number, square, one_less}
use Rattle.exact.proofs.Certificate.Proof.{only}
use Rattle.plane.specs.Side.{Point, side}
use Rattle.plane.specs.Cone.{scaled}
use Rattle.plane.proofs.Quote.{coordinates, pt, 𝟘ᵉ, scaledᵉ, sideᵉ}
use Rattle.convex.specs.Shape.{Shape, Inside, Convex, Reaches, Common}
use Rattle.convex.proofs.Region.{Spot, Region, Met, met_too, ◌∩◌, Form, at, half, halves}
use Rattle.convex.proofs.Radon.{all_four_meet}
use Rattle.convex.proofs.Helly.{ByTwos, meeting_by_threes, all_meet}

-- ---- the line of a side

-- positive left of the line from a to b
abbrev line : Point → Point → Form
line a b = record { p = a.y -ℤ b.y; q = b.x -ℤ a.x; r = (b.y -ℤ a.y) *ℤ a.x -ℤ (b.x -ℤ a.x) *ℤ a.y }

abbrev lineᵉ : Expr → Expr → Expr → Expr
lineᵉ x y w = (var 1 ⊖ var 3) ⊗ x ⊕ (var 2 ⊖ var 0) ⊗ y ⊕ ((var 3 ⊖ var 1) ⊗ var 0 ⊖ (var 2 ⊖ var 0) ⊗ var 1) ⊗ w

-- a whole point
abbrev corner : Point → Spot
corner c = record { x = c.x; y = c.y; w = pos 1 }

-- at a whole point the form is the side value
line_at_a_corner : (a b c : Point) → side a b c ≡ at (line a b) (corner c)
unfolding side
line_at_a_corner a b c = solve (coordinates (a ∷ b ∷ c ∷ [])) (sideᵉ (pt 0) (pt 1) (pt 2)) (lineᵉ (var 4) (var 5) (lit (pos 1))) tt

module _ (a b : Point) (s : Spot) where
  abbrev numbers : List ℤ
  numbers = coordinates (a ∷ b ∷ record { x = s.x; y = s.y } ∷ record { x = s.w; y = s.w } ∷ [])

  abbrev leftᵉ : Expr
  leftᵉ = sideᵉ (scaledᵉ (var 6) (pt 0)) (scaledᵉ (var 6) (pt 1)) (pt 2)

  -- left of the line the form is positive
  left_is_positive : 𝟘 <ℤ s.w → 𝟘 <ℤ side (scaled s.w a) (scaled s.w b) (record { x = s.x; y = s.y }) → 𝟘 <ℤ at (line a b) s
  unfolding side scaled
  left_is_positive =
      prove numbers ((𝟘ᵉ ≺ var 6) ∷ (𝟘ᵉ ≺ leftᵉ) ∷ []) (𝟘ᵉ ≺ lineᵉ (var 4) (var 5) (var 6)) (only (given 1 ⊠ given 0 ⊞ given 2)) tt

  -- where the form is positive is left of the line
  positive_is_left : 𝟘 <ℤ s.w → 𝟘 <ℤ at (line a b) s → 𝟘 <ℤ side (scaled s.w a) (scaled s.w b) (record { x = s.x; y = s.y })
  unfolding side scaled
  positive_is_left =
      prove numbers ((𝟘ᵉ ≺ var 6) ∷ (𝟘ᵉ ≺ lineᵉ (var 4) (var 5) (var 6)) ∷ []) (𝟘ᵉ ≺ leftᵉ) (only (given 0 ⊞ given 1 ⊠ given 2)) tt

-- ---- the inside of a shape

-- the forms of the sides
abbrev lines : Shape → ℕ → Form
lines A i = line (A.start i) (A.finish i)

-- the spots left of every side
abbrev inside : Shape → Region
inside A = halves (lines A) A.sides

-- its points are strictly inside the shape
inside_is_in : (A : Shape) (s : Spot) → 𝟘 <ℤ s.w → (inside A).In s → Inside A s.x s.y s.w
inside_is_in A s h m = record { left_of_each = λ i l. positive_is_left _ _ s h (m.each i l) }

-- a convex shape has one
some_inside : {A : Shape} → Convex A → Met (inside A)
some_inside c =
    let s : Spot = record { x = c.x; y = c.y; w = c.w } in
    record { spot = s; positive = c.positive; in_it = record { each = λ i l. left_is_positive _ _ s c.positive (c.inside.left_of_each i l) } }

-- ---- near a corner

-- n times c, and s
abbrev drawn : ℤ → Point → Spot → Spot
drawn n c s = record { x = n *ℤ c.x +ℤ s.x; y = n *ℤ c.y +ℤ s.y; w = n +ℤ s.w }

-- a form is linear
at_a_drawn : (f : Form) (n : ℤ) (c : Point) (s : Spot) → n *ℤ at f (corner c) +ℤ at f s ≡ at f (drawn n c s)
at_a_drawn f n c s =
    solve (f.p ∷ f.q ∷ f.r ∷ n ∷ c.x ∷ c.y ∷ s.x ∷ s.y ∷ s.w ∷ [])
    (var 3 ⊗ atᵉ (var 4) (var 5) (lit (pos 1)) ⊕ atᵉ (var 6) (var 7) (var 8))
    (atᵉ (var 3 ⊗ var 4 ⊕ var 6) (var 3 ⊗ var 5 ⊕ var 7) (var 3 ⊕ var 8)) tt
  where
    atᵉ : Expr → Expr → Expr → Expr
    atᵉ x y w = var 0 ⊗ x ⊕ var 1 ⊗ y ⊕ var 2 ⊗ w

-- a half-plane that holds a corner of a convex shape meets the shape's inside, near the corner
near_a_corner : {A : Shape} → Convex A → (f : Form) (k : ℕ) → k < A.sides → 𝟘 <ℤ at f (corner (A.start k)) → Met (inside A ∩ half f)
near_a_corner {A} c f k l h =
    record { spot = drawn n o s; positive = is_a_point; in_it = record { first = record { each = stays }; second = goes } }
  where
    o : Point
    o = A.start k

    s : Spot
    s = (some_inside c).spot

    t : ℤ
    t = at f s

    n : ℤ
    n = pos 1 +ℤ t *ℤ t

    nᵉ : Expr
    nᵉ = lit (pos 1) ⊕ var 0 ⊗ var 0

    is_a_point : 𝟘 <ℤ (n +ℤ s.w)
    is_a_point =
        prove (t ∷ s.w ∷ []) ((𝟘ᵉ ≺ var 1) ∷ []) (𝟘ᵉ ≺ nᵉ ⊕ var 1) (only (given 0 ⊞ given 1 ⊞ number 0 ⊞ square (var 0))) tt (some_inside c).positive

    stays : (i : ℕ) → i < A.sides → 𝟘 <ℤ at (lines A i) (drawn n o s)
    stays i j =
        subst (λ (z : ℤ). 𝟘 <ℤ z) (at_a_drawn (lines A i) n o s)
        (prove (t ∷ at (lines A i) (corner o) ∷ at (lines A i) s ∷ []) ((𝟘ᵉ ≼ var 1) ∷ (𝟘ᵉ ≺ var 2) ∷ []) (𝟘ᵉ ≺ nᵉ ⊗ var 1 ⊕ var 2) (only (given 0 ⊞ (number 0 ⊞ square (var 0)) ⊠ given 1 ⊞ given 2)) tt
        (subst (λ (z : ℤ). 𝟘 ≤ℤ z) (line_at_a_corner (A.start i) (A.finish i) o) (c.holds i k j l))
        ((some_inside c).in_it.each i j))

    goes : 𝟘 <ℤ at f (drawn n o s)
    goes =
        subst (λ (z : ℤ). 𝟘 <ℤ z) (at_a_drawn f n o s)
        (prove (t ∷ at f (corner o) ∷ []) ((𝟘ᵉ ≺ var 1) ∷ []) (𝟘ᵉ ≺ nᵉ ⊗ var 1 ⊕ var 0) (only (number 1 ⊠ given 0 ⊞ number 1 ⊠ (number 0 ⊞ square (var 0)) ⊠ one_less (given 1) ⊞ number 0 ⊞ square (var 0) ⊞ square (var 0 ⊕ lit (pos 1)))) tt h)

-- ---- two shapes

-- a side of A that B reaches has points inside B on its left
reached : {A B : Shape} → Convex B → (i : ℕ) → Reaches A B i → Met (inside B ∩ half (lines A i))
reached {A} {B} c i r =
    near_a_corner c (lines A i) r.k r.exists (subst (λ (z : ℤ). 𝟘 <ℤ z) (line_at_a_corner (A.start i) (A.finish i) (B.start r.k)) r.left)

module _ {A B : Shape} (a : Convex A) (b : Convex B) (f : (i : ℕ) → i < A.sides → Reaches A B i) (g : (j : ℕ) → j < B.sides → Reaches B A j) where
  -- inside A and left of any two sides of B there is a point
  two_sides_meet : ByTwos (inside A) (lines B) B.sides
  two_sides_meet j k l m =
      met_too (λ p h. record { first = h.second; second = h.first })
      (all_meet (half (lines B j) ∩ half (lines B k)) (lines A) A.sides
      (met_too (λ p h. record { first = h.each j l; second = h.each k m }) (some_inside b))
      (λ h i u v. all_four_meet _ _ _ _ (within_A k m h i u v) (within_A j l h i u v) (within_B i v) (within_B h u))
      (meeting_by_threes (lines A) A.sides (some_inside a)))
    where
      within_A : (j : ℕ) → j < B.sides → (h i : ℕ) → h < A.sides → i < A.sides → Met (half (lines B j) ∩ half (lines A h) ∩ half (lines A i))
      within_A j l h i u v =
          met_too (λ p e. record { first = e.second; second = record { first = e.first.each h u; second = e.first.each i v } }) (reached a j (g j l))

      within_B : (i : ℕ) → i < A.sides → Met (half (lines B j) ∩ half (lines B k) ∩ half (lines A i))
      within_B i v =
          met_too (λ p e. record { first = e.first.each j l; second = record { first = e.first.each k m; second = e.second } }) (reached b i (f i v))

  -- so inside A and left of all sides of B there is one
  insides_meet : Met (inside A ∩ inside B)
  insides_meet =
      all_meet (inside A) (lines B) B.sides (some_inside a) two_sides_meet (meeting_by_threes (lines B) B.sides (some_inside b))

-- convex shapes of which each reaches over every side of the other have a point in common
pub no_side_separates : {A B : Shape} → Convex A → Convex B → ((i : ℕ) → i < A.sides → Reaches A B i) → ((j : ℕ) → j < B.sides → Reaches B A j) → Common A B
no_side_separates {A} {B} a b f g =
    let m : Met (inside A ∩ inside B) = insides_meet a b f g in
    record {
      x = m.spot.x;
      y = m.spot.y;
      w = m.spot.w;
      positive = m.positive;
      in_one = inside_is_in A m.spot m.positive m.in_it.first;
      in_other = inside_is_in B m.spot m.positive m.in_it.second;
    }

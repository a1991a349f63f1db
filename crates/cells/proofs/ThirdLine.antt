-- A point strictly within a line between two cells is strictly within no third line, unless the third line's cell overlaps one of the two (document
-- 02, A7): some direction points from the point into both cells, and a step along it that is short enough stays in both.
use mathlib.Core.List.{List, [], ◌∷◌}
use mathlib.Core.Logic.{◌⊎◌, inl, inr}
use mathlib.Core.Path.{◌≡◌, sym, subst}
use Prim.Native.Nat.{ℕ, ◌<◌}
use native.Mathlib.Decide.{ℕ_discrete}
use lib.IntN.{ℤ, neg_ℤ, ◌+ℤ◌, ◌*ℤ◌}
use lib.Signed.{◌<ℤ◌, clash_ℤ}
use Rattle.exact.proofs.Order.{𝟘, trichotomy, less_is_at_most}
use Rattle.exact.proofs.Outweigh.{Outweighs, outweighs}
use Rattle.exact.proofs.Solver.{Expr, solve, ◌⊕◌, ◌⊗◌}
use Rattle.exact.proofs.Solver.Expr.{var, neg}
use Rattle.exact.proofs.Certificate.{prove, ◌≺◌, ◌≈◌, ◌⊞◌, ◌⊠◌}
use Rattle.exact.proofs.Certificate.Cert.{given, square, number, by, one_less}
use Rattle.exact.proofs.Certificate.Proof.{only}
use Rattle.plane.specs.Side.{Point, side}
use Rattle.plane.specs.Cone.{minus, scaled, cross, dot, Opposite}
use Rattle.plane.proofs.Quote.{Pointᵉ, coordinates, pt, 𝟘ᵉ, minusᵉ, scaledᵉ, crossᵉ, dotᵉ, sideᵉ}
use Rattle.plane.proofs.Found.{right_turned_is_left, along_is_ahead_or_behind, opposite_turns, the_way_to_the_left_is_left_of_the_first, the_way_to_the_left_is_left_of_the_second, a_line_against_goes_along_when_turned}
use Rattle.limits.specs.Limits.{wall}
use Rattle.cells.specs.Lists.{Cells, cell_count, face_count, home, next, start, neighbour, back}
use Rattle.cells.specs.Overlap.{StrictlyIn, Overlap}
use Rattle.cells.specs.Sound.{Numbered, Sound}
use Rattle.cells.proofs.Faces.{SideOf, side_exists, home_exists, side_of_home}
use Rattle.cells.proofs.Cells.{at}
use Rattle.cells.proofs.Plans.{back_exists, back_starts_at_the_finish, back_finishes_at_the_start}
use Rattle.cells.proofs.Within.{every_other_side_turns_left, left_of_every_other_side}

-- ---- a direction left of two others

-- u turned left by a quarter
abbrev quarter : Point → Point
quarter u = record { x = neg_ℤ u.y; y = u.x }

cross_with_a_quarter : (u v : Point) → cross v (quarter u) ≡ dot u v
unfolding cross dot
cross_with_a_quarter u v =
    solve (coordinates (u ∷ v ∷ [])) (crossᵉ (pt 1) (record { x = neg (var 1); y = var 0 })) (dotᵉ (pt 0) (pt 1)) tt

record LeftOfBoth (u v : Point) : Type 0 where
  d : Point
  of_the_first : 𝟘 <ℤ cross u d
  of_the_second : 𝟘 <ℤ cross v d

quarter_is_left_of_both : (u v : Point) → 𝟘 <ℤ dot u u → 𝟘 <ℤ dot u v → LeftOfBoth u v
quarter_is_left_of_both u v h k =
    record {
      d = quarter u;
      of_the_first = subst (λ (z : ℤ). 𝟘 <ℤ z) (sym (cross_with_a_quarter u u)) h;
      of_the_second = subst (λ (z : ℤ). 𝟘 <ℤ z) (sym (cross_with_a_quarter u v)) k;
    }

-- there is one, unless the two go against each other
left_of_both : (u v : Point) → 𝟘 <ℤ dot u u → 𝟘 <ℤ dot v v → LeftOfBoth u v ⊎ (dot u v <ℤ 𝟘)
left_of_both u v h k = by_side (trichotomy (cross u v) 𝟘) (trichotomy (dot u v) 𝟘)
  where
    by_side : (cross u v <ℤ 𝟘) ⊎ ((cross u v ≡ 𝟘) ⊎ (𝟘 <ℤ cross u v)) → (dot u v <ℤ 𝟘) ⊎ ((dot u v ≡ 𝟘) ⊎ (𝟘 <ℤ dot u v)) → LeftOfBoth u v ⊎ (dot u v <ℤ 𝟘)
    by_side (inl a) b =
        let l = right_turned_is_left u v a in
        inl (record {
          d = minus u v;
          of_the_first = the_way_to_the_left_is_left_of_the_second v u l;
          of_the_second = the_way_to_the_left_is_left_of_the_first v u l;
        })
    by_side (inr (inl a)) (inl b) = inr b
    by_side (inr (inl a)) (inr (inl b)) = absurd (along_is_ahead_or_behind v u k h a b)
    by_side (inr (inl a)) (inr (inr b)) = inl (quarter_is_left_of_both u v h b)
    by_side (inr (inr a)) b =
        inl (record {
          d = minus v u;
          of_the_first = the_way_to_the_left_is_left_of_the_first u v a;
          of_the_second = the_way_to_the_left_is_left_of_the_second u v a;
        })

-- ---- a step that is short enough

-- n times q, and d from there
abbrev stepped : ℤ → Point → Point → Point
stepped n q d = record { x = n *ℤ q.x +ℤ d.x; y = n *ℤ q.y +ℤ d.y }

module _ (n : ℤ) (a b q d : Point) where
  abbrev numbers : List ℤ
  numbers = coordinates (a ∷ b ∷ q ∷ d ∷ record { x = n; y = n } ∷ [])

  abbrev nᵉ : Expr
  nᵉ = var 8

  abbrev left_of_the_step : Expr
  left_of_the_step =
      sideᵉ (scaledᵉ nᵉ (pt 0)) (scaledᵉ nᵉ (pt 1)) (record { x = nᵉ ⊗ var 4 ⊕ var 6; y = nᵉ ⊗ var 5 ⊕ var 7 })

  -- a line through q that has d on its left has the step on its left
  steps_from_the_line : 𝟘 <ℤ n → cross (minus a q) (minus b q) ≡ 𝟘 → 𝟘 <ℤ cross (minus b a) d → 𝟘 <ℤ side (scaled n a) (scaled n b) (stepped n q d)
  unfolding cross minus side scaled
  steps_from_the_line =
      prove numbers ((𝟘ᵉ ≺ nᵉ) ∷ (crossᵉ (minusᵉ (pt 0) (pt 2)) (minusᵉ (pt 1) (pt 2)) ≈ 𝟘ᵉ) ∷ (𝟘ᵉ ≺ crossᵉ (minusᵉ (pt 1) (pt 0)) (pt 3)) ∷ []) (𝟘ᵉ ≺ left_of_the_step) (only (given 0 ⊞ given 1 ⊠ given 3 ⊞ by (neg (nᵉ ⊗ nᵉ)) (given 2))) tt

  -- a line that has q on its left still has the step there
  steps_not_over_the_line : 𝟘 <ℤ n → 𝟘 <ℤ side a b q → 𝟘 <ℤ (n +ℤ cross (minus b a) d) → 𝟘 <ℤ side (scaled n a) (scaled n b) (stepped n q d)
  unfolding cross minus side scaled
  steps_not_over_the_line =
      prove numbers ((𝟘ᵉ ≺ nᵉ) ∷ (𝟘ᵉ ≺ sideᵉ (pt 0) (pt 1) (pt 2)) ∷ (𝟘ᵉ ≺ nᵉ ⊕ crossᵉ (minusᵉ (pt 1) (pt 0)) (pt 3)) ∷ []) (𝟘ᵉ ≺ left_of_the_step) (only (given 0 ⊞ given 1 ⊠ given 3 ⊞ given 1 ⊠ given 1 ⊠ one_less (given 2))) tt

-- ---- lines that hold q

-- the direction in which face f runs
abbrev along : List ℤ → Cells → ℕ → Point
along cs T f = minus (at cs T (next T f)) (at cs T f)

-- q is strictly within face f
abbrev pub Holding : List ℤ → Cells → Point → ℕ → Type 0
Holding cs T q f = Opposite (minus (at cs T f) q) (minus (at cs T (next T f)) q)

-- two points in opposite directions are two
ends_are_apart : (a b q : Point) → dot (minus a q) (minus b q) <ℤ 𝟘 → 𝟘 <ℤ dot (minus b a) (minus b a)
unfolding dot minus
ends_are_apart a b q =
    prove (coordinates (a ∷ b ∷ q ∷ [])) ((dotᵉ a_from_q b_from_q ≺ 𝟘ᵉ) ∷ []) (𝟘ᵉ ≺ dotᵉ (minusᵉ (pt 1) (pt 0)) (minusᵉ (pt 1) (pt 0))) (only (given 0 ⊞ number 1 ⊠ given 1 ⊞ square a_from_q.x ⊞ square a_from_q.y ⊞ square b_from_q.x ⊞ square b_from_q.y)) tt
  where
    a_from_q : Pointᵉ
    a_from_q = minusᵉ (pt 0) (pt 2)

    b_from_q : Pointᵉ
    b_from_q = minusᵉ (pt 1) (pt 2)

-- what a line that holds q may be, f and the face on its other side being one
pub data ThirdLine (cs : List ℤ) (T : Cells) (f g : ℕ) : Type 0 where
  this_side : g ≡ f → ThirdLine cs T f g
  other_side : g ≡ back T f → ThirdLine cs T f g
  over_this_cell : Overlap cs T (home T f) (home T g) → ThirdLine cs T f g
  over_the_other_cell : Overlap cs T (home T (back T f)) (home T g) → ThirdLine cs T f g

module _ {cs : List ℤ} {T : Cells} {ds : List ℕ} (sound : Sound cs T ds) (q : Point) where
  has_length : (f : ℕ) → Holding cs T q f → 𝟘 <ℤ dot (along cs T f) (along cs T f)
  has_length f o = ends_are_apart (at cs T f) (at cs T (next T f)) q o.apart

  -- no two sides of a cell hold q
  one_side : (f g : ℕ) → f < face_count T → g < face_count T → home T g ≡ home T f → Holding cs T q f → Holding cs T q g → g ≡ f
  one_side f g h k same o p = by_test (ℕ_discrete g f)
    where
      N : Numbered T
      N = sound.numbered

      by_test : Dec (g ≡ f) → g ≡ f
      by_test (yes l) = l
      by_test (no l) =
          let never = subst (λ (z : ℤ). 𝟘 <ℤ z) p.along (every_other_side_turns_left N sound.cells q (home_exists N f h) (side_of_home N f h) o g (subst (λ (c : ℕ). SideOf T c g) same (side_of_home N g k)) l) in
          absurd (clash_ℤ never (less_is_at_most never))

  module _ (f g : ℕ) (h : f < face_count T) (k : g < face_count T) (o : Holding cs T q f) (p : Holding cs T q g) where
    -- cells with a direction from q into both overlap
    overlaps : (home T g ≡ home T f → ⊥) → LeftOfBoth (along cs T f) (along cs T g) → Overlap cs T (home T f) (home T g)
    overlaps other left =
        record {
          different = λ e. other (sym e);
          x = n *ℤ q.x +ℤ d.x;
          y = n *ℤ q.y +ℤ d.y;
          w = n;
          positive = far.positive;
          in_one = inside f h o left.of_the_first;
          in_other = inside g k p left.of_the_second;
        }
      where
        d : Point
        d = left.d

        far : Outweighs (λ e. cross (along cs T e) d) (face_count T)
        far = outweighs (λ e. cross (along cs T e) d) (face_count T)

        n : ℤ
        n = far.n

        inside : (g : ℕ) → g < face_count T → Holding cs T q g → 𝟘 <ℤ cross (along cs T g) d → StrictlyIn cs T (home T g) (n *ℤ q.x +ℤ d.x) (n *ℤ q.y +ℤ d.y) n
        inside g k p into = record { exists = here; left_of_each = λ e a b. by_test e (record { not_before = a; not_after = b }) (ℕ_discrete e g) }
          where
            here : home T g < cell_count T
            here = home_exists sound.numbered g k

            by_test : (e : ℕ) → SideOf T (home T g) e → Dec (e ≡ g) → 𝟘 <ℤ side (scaled n (at cs T e)) (scaled n (at cs T (next T e))) (stepped n q d)
            by_test e s (yes l) =
                subst (λ (i : ℕ). 𝟘 <ℤ side (scaled n (at cs T i)) (scaled n (at cs T (next T i))) (stepped n q d)) (sym l)
                (steps_from_the_line n _ _ q d far.positive p.along into)
            by_test e s (no l) =
                steps_not_over_the_line n _ _ q d far.positive
                (left_of_every_other_side sound.numbered sound.cells q here (side_of_home sound.numbered g k) p e s l)
                (far.each e (side_exists sound.numbered here s))

  pub third_line : (f g : ℕ) → f < face_count T → g < face_count T → (neighbour T f ≡ wall → ⊥) → Holding cs T q f → Holding cs T q g → ThirdLine cs T f g
  third_line f g h k free o p = by_cells (ℕ_discrete (home T g) (home T f)) (ℕ_discrete (home T g) (home T (back T f)))
    where
      beyond : back T f < face_count T
      beyond = back_exists sound f h free

      starts : start T (back T f) ≡ start T (next T f)
      starts = back_starts_at_the_finish sound f h free

      finishes : start T (next T (back T f)) ≡ start T f
      finishes = back_finishes_at_the_start sound f h free

      also : Holding cs T q (back T f)
      also = rw (starts, finishes) (opposite_turns _ _ o)

      turned : dot (along cs T f) (along cs T g) <ℤ 𝟘 → 𝟘 <ℤ dot (along cs T (back T f)) (along cs T g)
      turned l = rw (starts, finishes) (a_line_against_goes_along_when_turned (at cs T f) (at cs T (next T f)) (along cs T g) l)

      by_cells : Dec (home T g ≡ home T f) → Dec (home T g ≡ home T (back T f)) → ThirdLine cs T f g
      by_cells (yes a) b = this_side (one_side f g h k a o p)
      by_cells (no a) (yes b) = other_side (one_side (back T f) g beyond k b also p)
      by_cells (no a) (no b) = by_direction (left_of_both (along cs T f) (along cs T g) (has_length f o) (has_length g p))
        where
          by_direction : LeftOfBoth (along cs T f) (along cs T g) ⊎ (dot (along cs T f) (along cs T g) <ℤ 𝟘) → ThirdLine cs T f g
          by_direction (inl l) = over_this_cell (overlaps f g h k o p a l)
          by_direction (inr l) =
              over_the_other_cell (overlaps (back T f) g beyond k also p b (quarter_is_left_of_both _ _ (has_length (back T f) also) (turned l)))

-- Rows never outnumber corners (document 01, "Expansion"): the rows below a cone are at most one more than the corners strictly inside it.
use mathlib.Core.Bool.{Bool, true, false, ◌&&◌, ◌||◌, false≢true}
use mathlib.Core.List.{List, [], ◌∷◌}
use mathlib.Core.Logic.{◌⊎◌, inl, inr}
use mathlib.Core.Path.{◌≡◌}
use Prim.Native.Nat.{ℕ, suc, ◌+◌, ◌≤◌, ◌<◌}
use native.Mathlib.Omega.{arith}
use lib.Dec.{eqb}
use lib.Signed.{lt_z}
use borrow.Author.Tests.{eqb-true}
use Rattle.exact.proofs.Order.{𝟘, ltZ_true, lt_ltZ}
use Rattle.exact.proofs.Truth.{both_true, one_true}
use Rattle.plane.specs.Side.{Point}
use Rattle.plane.specs.Cone.{cross, Holds}
use Rattle.plane.proofs.Found.{halves_share_nothing, left_half_does_not_hold_v, right_half_does_not_hold_v}
use Rattle.fan.specs.Sight.{Floor, Sight, Standing, row_count, follow, lines_around, unentered, lines_seen, seen_from}
use Rattle.fan.specs.Once.{At}
use Rattle.fan.specs.Once.At.{first, later}
use Rattle.fan.proofs.Around.{Stands, Around, around_on, around_the_stand}
use Rattle.fan.proofs.Exit.{LeavesFromRight, leaves_from_right}
use Rattle.fan.proofs.Geometry.{Geometry, InSight, left_end_exists}
use Rattle.fan.proofs.HandOn.{Parted}
use Rattle.fan.proofs.Parts.{count, parts_at_most_the_whole, parts_at_most_either, number_is_counted, at_most_all_are_counted}
use Rattle.fan.proofs.Places.{first_excludes_the_others}
use Rattle.fan.proofs.Tree.{Source, Grown, in_sight, grown}
use Rattle.fan.proofs.Tree.Grown.{ends, too_many, crosses, keeps, splits}

-- ---- corners inside a cone

-- whether the cone with right limit r and left limit l holds d
unfoldable pub holds : Point → Point → Point → Bool
holds r l d = lt_z 𝟘 (cross r d) && lt_z 𝟘 (cross d l)

held : {r l d : Point} → holds r l d ≡ true → Holds r l d
unfolding holds
held {r} {l} {d} e = let h = both_true (lt_z 𝟘 (cross r d)) (lt_z 𝟘 (cross d l)) e in record { right = ltZ_true _ _ h.0; left = ltZ_true _ _ h.1 }

holding : {r l d : Point} → Holds r l d → holds r l d ≡ true
unfolding holds
holding h = rw (lt_ltZ h.right, lt_ltZ h.left)

-- corner i is strictly inside the cone of the corners r and l
inner : (ℕ → Point) → ℕ → ℕ → ℕ → Bool
inner see r l i = holds (see r) (see l) (see i)

-- it is so, or it is the right limit r
from_right : (ℕ → Point) → ℕ → ℕ → ℕ → Bool
from_right see r l i = eqb r i || inner see r l i

-- the number of corners strictly inside, of n corners
unfoldable pub inside : (ℕ → Point) → ℕ → ℕ → ℕ → ℕ
unfolding inner
inside see n r l = count (inner see r l) n

module _ (see : ℕ → Point) (n : ℕ) where
  -- the corner i is the right limit of the cone, or strictly inside it
  FromRight : ℕ → ℕ → ℕ → Type 0
  FromRight r l i = (r ≡ i) ⊎ Holds (see r) (see l) (see i)

  from_right_is : (r l i : ℕ) → from_right see r l i ≡ true → FromRight r l i
  unfolding from_right inner FromRight
  from_right_is r l i e = by_case (one_true (eqb r i) (inner see r l i) e)
    where
      by_case : (eqb r i ≡ true) ⊎ (inner see r l i ≡ true) → (r ≡ i) ⊎ Holds (see r) (see l) (see i)
      by_case (inl k) = inl (eqb-true r i k)
      by_case (inr k) = inr (held k)

  -- with the right limit counted there is one corner more
  one_more_from_right : (r l : ℕ) → r < n → 1 + inside see n r l ≤ count (from_right see r l) n
  unfolding from_right inner inside
  one_more_from_right r l h =
      omega (arith, number_is_counted r n h, parts_at_most_either (eqb r) (inner see r l) n apart)
    where
      apart : (i : ℕ) → eqb r i ≡ true → inner see r l i ≡ true → ⊥
      apart i e k = left_half_does_not_hold_v (see r) (see l) (rw (← eqb-true r i e) at (held k))

  -- a corner strictly between the limits parts the corners inside
  split_parts_the_inside : (r l v : ℕ) → v < n → Parted see r l v → inside see n r v + (1 + inside see n v l) ≤ inside see n r l
  unfolding inner inside FromRight
  split_parts_the_inside r l v h c =
      let halves =
      parts_at_most_the_whole (inner see r v) (from_right see v l) (inner see r l) n (λ i e. holding (c.right_half _ (held e)))
      (λ i e. holding (on_the_left i (from_right_is v l i e))) (λ i e k. apart i (held e) (from_right_is v l i k)) in
      omega (arith, one_more_from_right v l h, halves)
    where
      on_the_left : (i : ℕ) → FromRight v l i → Holds (see r) (see l) (see i)
      on_the_left i (inl e) = rw (← e) (record { right = c.at_v.past_right; left = c.at_v.short_of_left })
      on_the_left i (inr k) = c.left_half _ k

      apart : (i : ℕ) → Holds (see r) (see v) (see i) → FromRight v l i → ⊥
      apart i k (inl e) = right_half_does_not_hold_v (see r) (see v) (rw (← e) at k)
      apart i k (inr m) = halves_share_nothing _ _ _ _ k m

-- ---- rows

module _ {F : Floor} {N M : ℕ} {see : ℕ → Point} {cell : ℕ → ℕ} (G : Geometry F N M see cell) (n : ℕ) (corners : (f : ℕ) → f < N → F.right_end f < n) where
  rows_of_a_tree : {s : Source} {r l : ℕ} {t : Sight} → Grown G s r l t → row_count t ≤ 1 + inside see n r l
  unfolding row_count
  rows_of_a_tree (ends s e) = omega arith
  rows_of_a_tree (too_many s) = omega arith
  rows_of_a_tree (crosses s free t₁) = rows_of_a_tree t₁
  rows_of_a_tree (keeps i t₁) = rows_of_a_tree t₁
  rows_of_a_tree (splits {e = e} {r = r} {l = l} i c t₁ t₂) =
      let corner = left_end_exists G corners (in_sight G t₁).is_a_face in
      omega (arith, rows_of_a_tree t₁, rows_of_a_tree t₂, split_parts_the_inside see n r l (F.left_end e) corner c)

  -- the rows below a cone are at most one more than the corners strictly inside it
  pub rows_of_a_cone : (k f r l : ℕ) → InSight G f r l → row_count (follow F k f r l) ≤ 1 + inside see n r l
  rows_of_a_cone k f r l s = rows_of_a_tree (grown G k f r l s)

  -- ---- the lines around the stand

  -- corner i is the right end of line e, or strictly inside its cone
  abbrev of_line : ℕ → ℕ → Bool
  of_line e i = from_right see (F.right_end e) (F.left_end e) i

  -- so for one of some lines
  of_lines : List ℕ → ℕ → Bool
  of_lines [] i = false
  of_lines (e ∷ es) i = of_line e i || of_lines es i

  leaves_to : {es : List ℕ} {x j i : ℕ} → Around G es → At x es j → of_line x i ≡ true → LeavesFromRight F see (see i) x
  unfolding FromRight
  leaves_to {x = x} {j = j} {i = i} A a t = by_case (from_right_is see n (F.right_end x) (F.left_end x) i t)
    where
      by_case : FromRight see n (F.right_end x) (F.left_end x) i → LeavesFromRight F see (see i) x
      by_case (inl p) = let s = A.in_sight x j a in rw (← p) (record { right = s.seen.right_from_a; left = s.seen.seen })
      by_case (inr h) = leaves_from_right F see (see i) h

  of_some_line : (es : List ℕ) (i : ℕ) → of_lines es i ≡ true → (x : ℕ) × (j : ℕ) × At x es j × (of_line x i ≡ true)
  unfolding of_lines
  of_some_line [] i t = absurd (false≢true t)
  of_some_line (e ∷ es) i t = by_case (of_some_line es i) (one_true (of_line e i) (of_lines es i) t)
    where
      by_case :
          (of_lines es i ≡ true → (x : ℕ) × (j : ℕ) × At x es j × (of_line x i ≡ true)) → (of_line e i ≡ true) ⊎ (of_lines es i ≡ true) →
          (x : ℕ) × (j : ℕ) × At x (e ∷ es) j × (of_line x i ≡ true)
      by_case behind (inl h) = (e, 0, first, h)
      by_case behind (inr h) = let (x, j, p, t) = behind h in (x, suc j, later p, t)

  rows_of_a_line : (k : ℕ) {es : List ℕ} {x j : ℕ} → Around G es → At x es j → row_count (follow F k x (F.right_end x) (F.left_end x)) ≤ count (of_line x) n
  rows_of_a_line k {x = x} {j = j} A a =
      let s = A.in_sight x j a in
      let below = rows_of_a_cone k x (F.right_end x) (F.left_end x) s in
      omega (arith, below, one_more_from_right see n (F.right_end x) (F.left_end x) (corners x s.is_a_face))

  -- the rows of the lines are at most the corners of the lines: no corner is of two
  rows_of_lines : (k : ℕ) (es : List ℕ) → Around G es → row_count (lines_seen F k es) ≤ count (of_lines es) n
  unfolding lines_seen row_count of_lines
  rows_of_lines k [] A = absurd (omega (arith, A.some_line))
  rows_of_lines k (e ∷ []) A =
      let here = rows_of_a_line k A first in
      omega (arith, here, parts_at_most_either (of_line e) (λ i. false) n (λ i t t'. false≢true t'))
  rows_of_lines k (e ∷ x ∷ es) A =
      let here = rows_of_a_line k A first in
      let behind = rows_of_lines k (x ∷ es) (around_on G A) in
      omega (arith, here, behind, parts_at_most_either (of_line e) (of_lines (x ∷ es)) n apart)
    where
      apart : (i : ℕ) → of_line e i ≡ true → of_lines (x ∷ es) i ≡ true → ⊥
      apart i t t' =
          let (y, j, p, s) = of_some_line (x ∷ es) i t' in
          first_excludes_the_others (A.apart (see i)) p (leaves_to A first t) (leaves_to A (later p) s)

  -- rows never outnumber corners
  pub rows_never_outnumber_corners : {p : Standing} → Stands F N see p → row_count (seen_from F M p) ≤ n
  unfolding seen_from
  rows_never_outnumber_corners {p} S =
      omega (arith, rows_of_lines (unentered M p) (lines_around F p) (around_the_stand G S), at_most_all_are_counted (of_lines (lines_around F p)) n)

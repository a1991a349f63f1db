-- Demand 2 below one line (document 01, "Walk"): a direction within its limits that meets no corner is held by exactly one row, and the walk ends at that
-- row's face.
use mathlib.Core.Bool.{true≢false}
use mathlib.Core.List.{◌++◌}
use mathlib.Core.Path.{◌≡◌, refl, sym, ◌∙◌}
use Prim.Native.Nat.{ℕ, ◌<◌}
use Rattle.plane.specs.Side.{Point}
use Rattle.plane.specs.Cone.{Holds, Meets}
use Rattle.plane.specs.One.{OneOfTwo}
use Rattle.plane.proofs.Found.{halves_share_nothing}
use Rattle.plane.proofs.Cones.{split_at_a_corner}
use Rattle.fan.specs.Sight.{Floor, Sight, Row, follow, rows, Whole}
use Rattle.fan.specs.Sight.Whole.{whole_row, whole_pass, whole_both}
use Rattle.fan.specs.Walk.{Among, Leaves, Walks, RowHolds}
use Rattle.fan.specs.Walk.Walks.{ended, crossed}
use Rattle.fan.specs.Once.{At, NeverTwice}
use Rattle.fan.specs.Once.At.{first}
use Rattle.fan.proofs.Exit.{one_exit}
use Rattle.fan.proofs.Geometry.{Geometry, InSight, left_end_exists, other_is_a_face, other_in_the_cell}
use Rattle.fan.proofs.HandOn.{seen_is_exit}
use Rattle.fan.proofs.Places.{at_no_place, at_the_only_place, either_list, Some, some_in_first, some_in_second, never_twice_in_one, never_twice_joined}
use Rattle.fan.proofs.Tree.{Source, Grown, in_sight, grown}
use Rattle.fan.proofs.Tree.Source.{a_line, a_cell}
use Rattle.fan.proofs.Tree.Grown.{ends, too_many, crosses, keeps, splits}

-- ---- the walk

module _ {F : Floor} {N M : ℕ} {see : ℕ → Point} {cell : ℕ → ℕ} (G : Geometry F N M see cell) (d : Point) where
  abbrev Leaving : ℕ → Type 0
  Leaving = Leaves F see d

  abbrev Walking : ℕ → ℕ → Type 0
  Walking = Walks F see d

  abbrev Holding : Row → Type 0
  Holding = RowHolds F see d

  -- the walk that leaves by a face ends at one face
  pub walk_is_unique : {f w w' : ℕ} → f < N → Walking f w → Walking f w' → w ≡ w'
  walk_is_unique h (ended e) (ended k) = refl
  walk_is_unique h (ended e) (crossed free i l w) = absurd (true≢false (sym e ∙ free))
  walk_is_unique h (crossed free i l w) (ended e) = absurd (true≢false (sym e ∙ free))
  walk_is_unique {f} h (crossed {e = e} free i l w) (crossed {e = e'} free' i' l' w') =
      let b = G.back_is_a_face f h free in
      let k = other_is_a_face G b i in
      let same = one_exit G d e e' k (other_is_a_face G b i') (other_in_the_cell G b i ∙ sym (other_in_the_cell G b i')) l l' in
      walk_is_unique k w (rw same at w')

  -- the walk that leaves by side e or by one of the m sides after it ends at face w
  pub record WalkAmong (m e w : ℕ) : Type 0 where
    pub side : ℕ
    pub among : Among F m e side
    pub leaves : Leaving side
    pub walks : Walking side w

  -- the walk that leaves through a source ends at face w
  unfoldable Going : Source → ℕ → Type 0
  Going (a_line f) w = Walking f w
  Going (a_cell g) w = WalkAmong (F.more g) (F.next g) w

  -- ---- the rows of a tree

  -- what a row holds is within the limits
  pub row_is_inside : {s : Source} {r l i : ℕ} {t : Sight} {w : Row} → Grown G s r l t → At w (rows t) i → Holding w → Holds (see r) (see l) d
  unfolding rows
  row_is_inside (ends s e) p h = rw (at_the_only_place p) at h
  row_is_inside (too_many s) p h = absurd (at_no_place p)
  row_is_inside (crosses s free t₁) p h = row_is_inside t₁ p h
  row_is_inside (keeps i t₁) p h = row_is_inside t₁ p h
  row_is_inside (splits {t = t} i c t₁ t₂) p h =
      either_list (rows t) p (λ k q. c.right_half d (row_is_inside t₁ q h)) (λ k q. c.left_half d (row_is_inside t₂ q h))

  -- and leaves by the line
  leaves_by_the_line : {f r l i : ℕ} {t : Sight} {w : Row} → Grown G (a_line f) r l t → At w (rows t) i → Holding w → Leaving f
  leaves_by_the_line t₁ p h = seen_is_exit G (in_sight G t₁).seen d (row_is_inside t₁ p h)

  walked_to : {s : Source} {r l i : ℕ} {t : Sight} {w : Row} → Grown G s r l t → At w (rows t) i → Holding w → Going s w.face
  unfolding rows Going
  walked_to (ends s e) p h = rw (at_the_only_place p) (ended e)
  walked_to (too_many s) p h = absurd (at_no_place p)
  walked_to (crosses s free t₁) p h = let o = walked_to t₁ p h in crossed free o.among o.leaves o.walks
  walked_to (keeps {e = e} i t₁) p h = record { side = e; among = i; leaves = leaves_by_the_line t₁ p h; walks = walked_to t₁ p h }
  walked_to (splits {e = e} {t = t} i c t₁ t₂) p h =
      either_list (rows t) p
      (λ k q. record { side = e; among = i; leaves = leaves_by_the_line t₁ q h; walks = walked_to t₁ q h })
      (λ k q. walked_to t₂ q h)

  held_never_twice : {s : Source} {r l : ℕ} {t : Sight} → Grown G s r l t → NeverTwice Holding (rows t)
  unfolding rows
  held_never_twice (ends s e) = never_twice_in_one
  held_never_twice (too_many s) = record { same_place = λ x y i j p q h k. absurd (at_no_place p) }
  held_never_twice (crosses s free t₁) = held_never_twice t₁
  held_never_twice (keeps i t₁) = held_never_twice t₁
  held_never_twice (splits i c t₁ t₂) =
      never_twice_joined (held_never_twice t₁) (held_never_twice t₂)
      (λ x y i j p q h k. halves_share_nothing _ _ _ d (row_is_inside t₁ p h) (row_is_inside t₂ q k))

  module _ (n : ℕ) (corners : (f : ℕ) → f < N → F.right_end f < n) (clear : (c : ℕ) → c < n → ¬ Meets d (see c)) where
    some_row_holds : {s : Source} {r l : ℕ} {t : Sight} → Grown G s r l t → Whole t → Holds (see r) (see l) d → Some Holding (rows t)
    unfolding rows
    some_row_holds (ends s e) whole_row h = (_, _, first, h)
    some_row_holds (too_many s) w h = elim w [ ]
    some_row_holds (crosses s free t₁) (whole_pass w) h = some_row_holds t₁ w h
    some_row_holds (keeps i t₁) w h = some_row_holds t₁ w h
    some_row_holds (splits {e = e} {r = r} {l = l} {t = t} {u = u} i c t₁ t₂) (whole_both w₁ w₂) h =
        by_half (λ k. some_row_holds t₁ w₁ k) (λ k. some_row_holds t₂ w₂ k)
        (split_at_a_corner _ _ _ d c.at_v h (clear _ (left_end_exists G corners (in_sight G t₁).is_a_face)))
      where
        v : ℕ
        v = F.left_end e

        by_half :
            (Holds (see r) (see v) d → Some Holding (rows t)) → (Holds (see v) (see l) d → Some Holding (rows u)) →
            OneOfTwo (Holds (see r) (see v) d) (Holds (see v) (see l) d) → Some Holding (rows t ++ rows u)
        by_half on_the_right on_the_left (OneOfTwo.first k k') = some_in_first (rows u) (on_the_right k)
        by_half on_the_right on_the_left (OneOfTwo.second k' k) = some_in_second (rows t) (on_the_left k)

  -- ---- the line of face f with limits r and l

  module _ (k f r l : ℕ) (s : InSight G f r l) where
    -- what a row holds leaves by the line
    pub row_leaves_by_the_line : {i : ℕ} {w : Row} → At w (rows (follow F k f r l)) i → Holding w → Leaving f
    row_leaves_by_the_line p h = leaves_by_the_line (grown G k f r l s) p h

    -- a row that holds d is where the walk for d ends
    pub row_is_walked_to : {i : ℕ} {w : Row} → At w (rows (follow F k f r l)) i → Holding w → Walking f w.face
    unfolding Going
    row_is_walked_to p h = walked_to (grown G k f r l s) p h

    -- no two rows hold d
    pub rows_share_no_direction : NeverTwice Holding (rows (follow F k f r l))
    rows_share_no_direction = held_never_twice (grown G k f r l s)

    -- within the limits and on no corner's ray, some row holds d
    pub some_row_holds_it :
        (n : ℕ) → ((g : ℕ) → g < N → F.right_end g < n) → ((c : ℕ) → c < n → ¬ Meets d (see c)) → Whole (follow F k f r l) →
        Holds (see r) (see l) d → Some Holding (rows (follow F k f r l))
    some_row_holds_it n corners clear w h = some_row_holds n corners clear (grown G k f r l s) w h

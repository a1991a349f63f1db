-- The lines around the stand, each followed with its own ends as limits: nothing is cut, few crossings, rows that are seen, and demand 2. What is proved is proved
-- once, over any list of lines that is `Around` the stand, and so for a stand of either kind.
use mathlib.Core.List.{List, [], ◌∷◌}
use mathlib.Core.Logic.{◌⊎◌, inl, inr}
use mathlib.Core.Path.{◌≡◌, sym, subst}
use Prim.Native.Nat.{ℕ, ◌*◌, ◌≤◌, ◌<◌}
use native.Mathlib.Omega.{arith}
use Rattle.plane.specs.Side.{Point}
use Rattle.plane.specs.Cone.{Meets, Direction}
use Rattle.fan.specs.Sight.{Floor, Sight, Row, Standing, follow, other_sides, lines_around, unentered, lines_seen, seen_from, rows, row_count, crossings, Whole}
use Rattle.fan.specs.Sight.Sight.{both}
use Rattle.fan.specs.Sight.Standing.{within}
use Rattle.fan.specs.Sight.Whole.{whole_both}
use Rattle.fan.specs.Walk.{Leaves, Walks, RowHolds, WalkEnds}
use Rattle.fan.specs.Once.{At, NeverTwice, Only}
use Rattle.fan.specs.Once.At.{first, later}
use Rattle.fan.proofs.Around.{Stands, Around, around_on, around_the_stand, enough_for_each, walk_begins, begun_at_a_line, some_line_leaves}
use Rattle.fan.proofs.Around.Stands.{stands_within}
use Rattle.fan.proofs.Demand2.{walk_is_unique, row_leaves_by_the_line, row_is_walked_to, rows_share_no_direction, some_row_holds_it}
use Rattle.fan.proofs.Exit.{leaves_from_right}
use Rattle.fan.proofs.Fuel.{Enough, fuel_suffices}
use Rattle.fan.proofs.Geometry.{Geometry}
use Rattle.fan.proofs.Places.{either_list, Some, some_in_first, some_in_second, never_twice_joined, first_excludes_the_others, some_never_twice_is_only}
use Rattle.fan.proofs.RowCounts.{over_lines, crossings_of_lines_at_most_rows_times_fuel}
use Rattle.fan.proofs.Start.{at_is_among}
use Rattle.fan.proofs.Tables.{one_at_a_place}
use Rattle.fan.proofs.Tree.{RowSeen, row_is_seen}
use Rattle.fan.proofs.Twice.{AllDifferent, WayDown, no_line_of_sight_enters_a_cell_twice}
use Rattle.fan.proofs.Twice.WayDown.{right_of_the_split, left_of_the_split}
use Rattle.fan.proofs.WithinSide.{from_beyond, the_neighbour_is_never_entered}

module _ {F : Floor} {N M : ℕ} {see : ℕ → Point} {cell : ℕ → ℕ} (G : Geometry F N M see cell) where
  -- ---- any lines around the stand

  module _ (k : ℕ) where
    lines_are_whole : (es : List ℕ) → Around G es → ((e i : ℕ) → At e es i → Enough G k e (F.right_end e) (F.left_end e)) → Whole (lines_seen F k es)
    lines_are_whole es A fuel =
        over_lines F Whole (λ t u h j. whole_both h j) k es A.some_line (λ e i p. fuel_suffices G k e _ _ (A.in_sight e i p) (fuel e i p))

    -- what all ways down each line have, all ways down the lines have
    ways_of_lines :
        (P : ℕ → List ℕ → Type 0) (es : List ℕ) → Around G es →
        ((x i : ℕ) → At x es i → (e : ℕ) (p : List ℕ) → WayDown (follow F k x (F.right_end x) (F.left_end x)) e p → P e p) → (e : ℕ) (p : List ℕ) →
        WayDown (lines_seen F k es) e p → P e p
    ways_of_lines P es A = over_lines F (λ t. (e : ℕ) (p : List ℕ) → WayDown t e p → P e p) over_a_split k es A.some_line
      where
        over_a_split :
            (t u : Sight) → ((e : ℕ) (p : List ℕ) → WayDown t e p → P e p) → ((e : ℕ) (p : List ℕ) → WayDown u e p → P e p) → (e : ℕ) (p : List ℕ) →
            WayDown (both t u) e p → P e p
        over_a_split t u h h' e p (right_of_the_split v) = h e p v
        over_a_split t u h h' e p (left_of_the_split v) = h' e p v

    rows_of_lines_are_seen : (es : List ℕ) → Around G es → (i : ℕ) (w : Row) → At w (rows (lines_seen F k es)) i → RowSeen G w
    unfolding rows
    rows_of_lines_are_seen es A =
        over_lines F (λ t. (i : ℕ) (w : Row) → At w (rows t) i → RowSeen G w)
        (λ t v h h' i w p. either_list (rows t) p (λ j q. h j w q) (λ j q. h' j w q))
        k es A.some_line (λ x a q i w p. row_is_seen G k x _ _ (A.in_sight x a q) p)

    module _ (d : Point) where
      abbrev Leaving : ℕ → Type 0
      Leaving = Leaves F see d

      abbrev Holding : Row → Type 0
      Holding = RowHolds F see d

      -- the walk that leaves by one of the lines ends at face w
      record WalkFrom (es : List ℕ) (w : ℕ) : Type 0 where
        line : ℕ
        place : ℕ
        stands : At line es place
        leaves : Leaving line
        walks : Walks F see d line w

      -- a row of some lines that holds d is where the walk that leaves by one of them ends
      rows_of_lines_are_walked_to : (es : List ℕ) → Around G es → (i : ℕ) (w : Row) → At w (rows (lines_seen F k es)) i → Holding w → WalkFrom es w.face
      unfolding rows
      rows_of_lines_are_walked_to es A =
          over_lines F (λ t. (i : ℕ) (w : Row) → At w (rows t) i → Holding w → WalkFrom es w.face)
          (λ t v h h' i w p x. either_list (rows t) p (λ j q. h j w q x) (λ j q. h' j w q x))
          k es A.some_line
          (λ x a q i w p h.
          let s = A.in_sight x a q in
          record { line = x; place = a; stands = q; leaves = row_leaves_by_the_line G d k x _ _ s p h; walks = row_is_walked_to G d k x _ _ s p h })

      -- no two rows of different lines hold d
      rows_of_lines_share_no_direction : (es : List ℕ) → Around G es → NeverTwice Holding (rows (lines_seen F k es))
      unfolding rows lines_seen
      rows_of_lines_share_no_direction [] A = absurd (omega (arith, A.some_line))
      rows_of_lines_share_no_direction (e ∷ []) A = rows_share_no_direction G d k e _ _ (A.in_sight e 0 first)
      rows_of_lines_share_no_direction (e ∷ x ∷ es) A =
          never_twice_joined (rows_share_no_direction G d k e _ _ (A.in_sight e 0 first)) (rows_of_lines_share_no_direction (x ∷ es) (around_on G A))
          (λ v y i j p q h h'.
          apart (row_leaves_by_the_line G d k e _ _ (A.in_sight e 0 first) p h) (rows_of_lines_are_walked_to (x ∷ es) (around_on G A) j y q h'))
        where
          apart : {w : ℕ} → Leaving e → WalkFrom (x ∷ es) w → ⊥
          apart l o = first_excludes_the_others (A.apart d) o.stands (leaves_from_right F see d l) (leaves_from_right F see d o.leaves)

      -- a line that is left by has a row that holds d
      some_row_of_a_line_holds :
          (n : ℕ) → ((e : ℕ) → e < N → F.right_end e < n) → ((c : ℕ) → c < n → ¬ Meets d (see c)) → (es : List ℕ) → Around G es →
          Some Leaving es → Whole (lines_seen F k es) → Some Holding (rows (lines_seen F k es))
      unfolding rows lines_seen
      some_row_of_a_line_holds n corners clear [] A s w = absurd (omega (arith, A.some_line))
      some_row_of_a_line_holds n corners clear (e ∷ []) A (y, i, first, l) w = some_row_holds_it G d k e _ _ (A.in_sight e 0 first) n corners clear w l
      some_row_of_a_line_holds n corners clear (e ∷ []) A (y, i, later p, l) w = elim p [ ]
      some_row_of_a_line_holds n corners clear (e ∷ x ∷ es) A (y, i, first, l) (whole_both w w') =
          some_in_first (rows (lines_seen F k (x ∷ es))) (some_row_holds_it G d k e _ _ (A.in_sight e 0 first) n corners clear w l)
      some_row_of_a_line_holds n corners clear (e ∷ x ∷ es) A (y, i, later {i = j} p, l) (whole_both w w') =
          some_in_second (rows (follow F k e (F.right_end e) (F.left_end e)))
          (some_row_of_a_line_holds n corners clear (x ∷ es) (around_on G A) (y, j, p, l) w')

  -- ---- a stand of either kind

  module _ {p : Standing} (S : Stands F N see p) where
    abbrev A : Around G (lines_around F p)
    A = around_the_stand G S

    -- with one crossing for each cell not yet entered nothing is cut
    pub listing_is_whole : Whole (seen_from F M p)
    unfolding seen_from
    listing_is_whole = lines_are_whole (unentered M p) (lines_around F p) A (enough_for_each G S)

    -- crossings never exceed rows times the cells not yet entered
    pub crossings_at_most_rows_times_unentered : crossings (seen_from F M p) ≤ row_count (seen_from F M p) * unentered M p
    unfolding seen_from
    crossings_at_most_rows_times_unentered =
        crossings_of_lines_at_most_rows_times_fuel F (unentered M p) (lines_around F p) A.some_line listing_is_whole

    -- no way down the listing enters a cell twice
    pub no_line_of_sight_from_the_stand_enters_a_cell_twice : (e : ℕ) (q : List ℕ) → WayDown (seen_from F M p) e q → AllDifferent cell (e ∷ q)
    unfolding seen_from
    no_line_of_sight_from_the_stand_enters_a_cell_twice =
        ways_of_lines (unentered M p) (λ e q. AllDifferent cell (e ∷ q)) (lines_around F p) A
        (λ x i a. no_line_of_sight_enters_a_cell_twice G (unentered M p) x _ _ (A.in_sight x i a))

    -- each row's face is seen and ends the sight
    pub listed_row_is_seen : {i : ℕ} {w : Row} → At w (rows (seen_from F M p)) i → RowSeen G w
    unfolding seen_from
    listed_row_is_seen q = rows_of_lines_are_seen (unentered M p) (lines_around F p) A _ _ q

    -- ---- demand 2

    module _ (d : Point) where
      -- no two rows hold d
      pub listed_share_no_direction : NeverTwice (RowHolds F see d) (rows (seen_from F M p))
      unfolding seen_from
      listed_share_no_direction = rows_of_lines_share_no_direction (unentered M p) d (lines_around F p) A

      -- a row that holds d is where the walk from the stand ends
      pub listed_row_is_walked_to : {i : ℕ} {w : Row} → At w (rows (seen_from F M p)) i → RowHolds F see d w → WalkEnds F see d p w.face
      unfolding seen_from
      listed_row_is_walked_to q h =
          let o = rows_of_lines_are_walked_to (unentered M p) d (lines_around F p) A _ _ q h in
          record { side = o.line; begins = walk_begins G S o.stands o.leaves; leaves = o.leaves; walks = o.walks }

      -- the walk from the stand ends at one face
      pub walk_ends_once : {w w' : ℕ} → WalkEnds F see d p w → WalkEnds F see d p w' → w ≡ w'
      walk_ends_once {w' = w'} x y =
          let (i, a) = begun_at_a_line G S x.begins in
          let (j, b) = begun_at_a_line G S y.begins in
          let place = (A.apart d).same_place _ _ i j a b (leaves_from_right F see d x.leaves) (leaves_from_right F see d y.leaves) in
          let same = one_at_a_place a (subst (At y.side (lines_around F p)) (sym place) b) in
          walk_is_unique G d (A.in_sight _ i a).is_a_face x.walks (subst (λ (e : ℕ). Walks F see d e w') (sym same) y.walks)

      module _ (n : ℕ) (corners : (e : ℕ) → e < N → F.right_end e < n) (is_direction : Direction d) (clear : (c : ℕ) → c < n → ¬ Meets d (see c)) where
        -- exactly one row holds d, and the walk from the stand ends at its face
        pub demand_2 : (w : Row) × Only (RowHolds F see d) (rows (seen_from F M p)) w × WalkEnds F see d p w.face
        unfolding seen_from
        demand_2 =
            let l = some_line_leaves G S n corners d is_direction clear in
            let s = some_row_of_a_line_holds (unentered M p) d n corners clear (lines_around F p) A l listing_is_whole in
            (s.0, some_never_twice_is_only s listed_share_no_direction, listed_row_is_walked_to s.2 s.3)

  -- ---- a stand on a side

  -- the cell beyond has been left by the line stood on, at the stand, and no way down the listing enters it
  pub no_line_of_sight_from_a_side_enters_the_cell_beyond :
      {s : ℕ} → Stands F N see (within s) → (e : ℕ) (q : List ℕ) → WayDown (seen_from F M (within s)) e q →
      (AllDifferent cell (F.back s ∷ e ∷ q)) ⊎ (AllDifferent cell (s ∷ e ∷ q))
  unfolding seen_from lines_around
  no_line_of_sight_from_a_side_enters_the_cell_beyond {s} (stands_within S) =
      ways_of_lines (unentered M (within s)) (λ e q. (AllDifferent cell (F.back s ∷ e ∷ q)) ⊎ (AllDifferent cell (s ∷ e ∷ q)))
      (lines_around F (within s)) (around_the_stand G (stands_within S))
      (λ x i a e q w.
      either_list (other_sides F s) a (λ k b. inl (the_neighbour_is_never_entered G S (at_is_among F b) _ e q w))
      (λ k b.
      inr
      (subst (λ (g : ℕ). AllDifferent cell (g ∷ e ∷ q)) S.back_again (the_neighbour_is_never_entered G (from_beyond G S) (at_is_among F b) _ e q w))))

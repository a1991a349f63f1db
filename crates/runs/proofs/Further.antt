-- A longer reach only refines (document 02, A5), over any floor: where sight is stopped at more faces, each row on those is replaced by its run on the floor
-- without the stops, and every other row stands there too, in its order.
use mathlib.Core.Bool.{Bool, true, false, not}
use mathlib.Core.List.{List, [], ◌∷◌, ◌++◌}
use mathlib.Core.Path.{◌≡◌, refl, ap}
use Prim.Native.Nat.{ℕ, suc, ◌≤◌}
use native.Mathlib.Omega.{arith}
use Rattle.fan.specs.Sight.{Floor, Sight, Standing, lines_around, unentered, seen_from, row_count, crossings, Whole}
use Rattle.fan.specs.Sight.Sight.{pass, both}
use Rattle.fan.specs.Sight.Whole.{whole_pass, whole_both}
use Rattle.fan.proofs.RowCounts.{whole_has_a_row}
use Rattle.runs.specs.Route.{Routed, routed}
use Rattle.runs.specs.Door.{those}
use Rattle.runs.specs.Opening.{run_of, open_rows}
use Rattle.runs.specs.Floors.{ending, Stops, Faces}
use Rattle.runs.specs.Kept.{StandIn}
use Rattle.runs.specs.Kept.StandIn.{none, this, later}
use Rattle.runs.proofs.Lists.{kept, left_out}
use Rattle.runs.proofs.SideBySide.{listings_side_by_side}
use Rattle.runs.proofs.Opened.{opened_where_stopped, left_elsewhere, open_rows_are_opened}
use Rattle.runs.proofs.Through.{Lines, some_line}

behind_more : {A : Type 0} {xs ys : List A} (zs : List A) → StandIn xs ys → StandIn xs (zs ++ ys)
behind_more [] s = s
behind_more (z ∷ zs) s = later (behind_more zs s)

-- the rows that are not stopped stand among the opened ones, in their order
module _ (F : Floor) (stops : ℕ → Bool) where
  abbrev pub passed : Routed → Bool
  passed x = not (stops x.row.face)

  pub others_stand : (n : ℕ) (xs : List Routed) → StandIn (those passed xs) (open_rows F stops n xs)
  unfolding those open_rows
  others_stand n [] = none
  others_stand n (x ∷ xs) = by_test (others_stand n xs) (stops x.row.face) refl
    where
      by_test : StandIn (those passed xs) (open_rows F stops n xs) → (b : Bool) → stops x.row.face ≡ b
          → StandIn (those passed (x ∷ xs)) (open_rows F stops n (x ∷ xs))
      by_test ih true d = rw (left_out passed x xs (ap not d), opened_where_stopped F stops n x xs d) (behind_more (run_of F n x) ih)
      by_test ih false d = rw (kept passed x xs (ap not d), left_elsewhere F stops n x xs d) (this ih)

-- a floor of M cells, and sight stopped at some of its faces, seen from a stand
pub record Stopped (N : ℕ) (F : Floor) (stops ends : ℕ → Bool) (far : ℕ → ℕ) (M : ℕ) (p : Standing) : Type 0 where
  pub where_stopped : Stops N F stops ends far
  pub faces : Faces N F
  pub lines : Lines N F (unentered M p) (lines_around F p)

module _ {N M : ℕ} {F : Floor} {stops ends : ℕ → Bool} {far : ℕ → ℕ} {p : Standing} (S : Stopped N F stops ends far M p) where
  -- each row where sight is stopped is replaced by its run
  pub further_opens_the_stopped : routed (seen_from F M p) ≡ open_rows F stops (unentered M p) (routed (seen_from (ending F ends far) M p))
  further_opens_the_stopped = open_rows_are_opened F S.where_stopped S.faces M p (some_line S.lines.linked) S.lines.are_faces

  -- every other row stands in both, in the same order
  pub further_keeps_the_others : StandIn (those (passed F stops) (routed (seen_from (ending F ends far) M p))) (routed (seen_from F M p))
  further_keeps_the_others = rw further_opens_the_stopped (others_stand F stops (unentered M p) (routed (seen_from (ending F ends far) M p)))

  -- there are no fewer rows, and no fewer crossings
  abbrev NoFewer : ℕ → Sight → Sight → Type 0
  NoFewer n t t' = Whole t → (row_count t' ≤ row_count t) × (crossings t' ≤ crossings t)

  pub further_has_no_fewer : (row_count (seen_from (ending F ends far) M p) ≤ row_count (seen_from F M p)) × (crossings (seen_from (ending F ends far) M p) ≤ crossings (seen_from F M p))
  unfolding row_count crossings seen_from
  further_has_no_fewer =
      listings_side_by_side F S.where_stopped S.faces NoFewer (λ n f r l k d w. (omega arith, omega arith)) (λ w. (omega arith, omega arith))
      (λ n f r l d w. (whole_has_a_row w, omega arith)) over_a_passage over_a_split M p (some_line S.lines.linked) S.lines.are_faces S.lines.whole
    where
      over_a_passage : (n f r l : ℕ) (t t' : Sight) → stops f ≡ false → NoFewer n t t' → NoFewer (suc n) (pass f r l t) (pass f r l t')
      over_a_passage n f r l t t' d h (whole_pass w) = ((h w).0, omega (arith, (h w).1))

      over_a_split : (n : ℕ) (t t' u u' : Sight) → NoFewer n t t' → NoFewer n u u' → NoFewer n (both t u) (both t' u')
      over_a_split n t t' u u' h k (whole_both w v) = (omega (arith, (h w).0, (k v).0), omega (arith, (h w).1, (k v).1))

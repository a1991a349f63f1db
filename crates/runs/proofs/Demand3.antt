-- Demand 3 over any floor: the listing from a stand with a door open, and with it shut (document 01, "Changing a door"; document 02, A5). All of it holds whether
-- the door is in reach or not, but that its rows once it is shut are its runs, which is said of a door in reach; of one out of reach nothing changes.
use mathlib.Core.Bool.{Bool, true, false}
use mathlib.Core.List.{[], map}
use mathlib.Core.Path.{◌≡◌, refl, sym, ◌∙◌, ap}
use Prim.Native.Nat.{ℕ, ◌+◌}
use Rattle.fan.specs.Sight.{Floor, Sight, Standing, lines_around, unentered, seen_from, numbers, crossings}
use Rattle.fan.specs.Once.{At}
use Rattle.fan.proofs.Places.{at_no_place}
use Rattle.runs.specs.Route.{routed, row_numbers}
use Rattle.runs.specs.Door.{is_door, same_to_door, on_door, untouched, those}
use Rattle.runs.specs.Shutting.{Piece, runs, door_row, shut_rows, prune, crossings_left, crossings_lost}
use Rattle.runs.specs.Opening.{open_rows}
use Rattle.runs.specs.Floors.{ending, Shuts, Faces}
use Rattle.runs.proofs.Routes.{routed_numbers_are_the_numbers}
use Rattle.runs.proofs.Pruned.{pruned_is_whole, crossings_once_shut, crossings_while_open}
use Rattle.runs.proofs.Untouched.{untouched_rows_stay}
use Rattle.runs.proofs.SideBySide.{an_end_is_no_door, a_passage_is_no_door, shutting_stops, same_lines, stopped_faces}
use Rattle.runs.proofs.Shut.{shut_listing_is_pruned}
use Rattle.runs.proofs.Opened.{open_rows_are_opened}
use Rattle.runs.proofs.Through.{Through, Lines, linked_alike, some_line, listing_goes_through}
use Rattle.runs.proofs.Runs.{shut_rows_are_the_pruned_rows}
use Rattle.runs.proofs.Visits as Visits

-- one door of a floor of M cells, open and shut, seen from a stand
pub record DoorChange (N f₀ g₀ : ℕ) (F : Floor) (once_shut : ℕ → Bool) (M : ℕ) (p : Standing) : Type 0 where
  pub shuts : Shuts N f₀ g₀ F once_shut
  pub faces : Faces N F
  pub lines : Lines N F (unentered M p) (lines_around F p)

module _ {N f₀ g₀ : ℕ} {F : Floor} {once_shut : ℕ → Bool} {M : ℕ} {p : Standing} (D : DoorChange N f₀ g₀ F once_shut M p) where
  S : Shuts N f₀ g₀ F once_shut
  S = D.shuts

  A : Faces N F
  A = D.faces

  L : Lines N F (unentered M p) (lines_around F p)
  L = D.lines

  -- the listing while the door is open, and once it is shut
  abbrev pub while_open : Sight
  while_open = seen_from F M p

  abbrev pub once : Sight
  once = seen_from (ending F once_shut F.far) M p

  through : Through F.ends (lines_around F p) L.right L.left while_open
  unfolding seen_from
  through = listing_goes_through A L

  -- ---- shutting

  pub shutting_prunes : once ≡ prune f₀ g₀ while_open
  unfolding seen_from
  shutting_prunes = shut_listing_is_pruned F S A M p (some_line L.linked) L.are_faces L.whole

  -- the listing under the shut setting is the listing under the open one with each run replaced by one row
  pub shutting_replaces_each_run : routed once ≡ shut_rows f₀ g₀ (routed while_open)
  shutting_replaces_each_run = ap routed shutting_prunes ∙ shut_rows_are_the_pruned_rows f₀ g₀ through

  pub shut_numbers_are_the_numbers : numbers once ≡ row_numbers (shut_rows f₀ g₀ (routed while_open))
  shut_numbers_are_the_numbers = sym (routed_numbers_are_the_numbers once) ∙ ap row_numbers shutting_replaces_each_run

  -- rows whose routes neither cross the door nor end on it stand in both lists, unaltered, in the same order
  pub untouched_rows_stand_in_both : those (untouched f₀ g₀) (routed once) ≡ those (untouched f₀ g₀) (routed while_open)
  untouched_rows_stand_in_both = ap (λ (t : Sight). those (untouched f₀ g₀) (routed t)) shutting_prunes ∙ untouched_rows_stay f₀ g₀ while_open

  -- a door in reach: runs through the open door and rows on the shut door correspond one to one, in order
  pub rows_on_the_shut_door_are_the_runs : F.ends f₀ ≡ false → those (on_door f₀ g₀) (routed once) ≡ map (door_row f₀ g₀) (runs f₀ g₀ (routed while_open))
  rows_on_the_shut_door_are_the_runs passed =
      ap (λ (t : Sight). those (on_door f₀ g₀) (routed t)) shutting_prunes
      ∙ Visits.rows_on_the_door_are_the_runs f₀ g₀ through (an_end_is_no_door S passed)

  -- a door out of reach: nothing changes, rows and crossings are the same shut and open, and no run is behind it
  pub out_of_reach_nothing_changes : F.ends f₀ ≡ true → once ≡ while_open
  out_of_reach_nothing_changes ended = shutting_prunes ∙ Visits.nothing_to_prune f₀ g₀ (a_passage_is_no_door S ended) through

  pub out_of_reach_no_runs : F.ends f₀ ≡ true → runs f₀ g₀ (routed while_open) ≡ []
  out_of_reach_no_runs ended = Visits.no_runs f₀ g₀ (a_passage_is_no_door S ended) through

  -- nothing is cut once the door is shut
  shut_lines : Lines N (ending F once_shut F.far) (unentered M p) (lines_around F p)
  unfolding seen_from
  shut_lines =
      record {
        are_faces = L.are_faces;
        right = L.right;
        left = L.left;
        linked = linked_alike L.linked;
        once = L.once;
        whole = rw (← same_lines F once_shut F.far p) (rw shutting_prunes (pruned_is_whole f₀ g₀ L.whole));
      }

  shut_through : Through once_shut (lines_around F p) shut_lines.right shut_lines.left (prune f₀ g₀ while_open)
  unfolding seen_from
  shut_through =
      rw (← shutting_prunes, same_lines F once_shut F.far p) (listing_goes_through (stopped_faces F (shutting_stops S) A) shut_lines)

  -- no two runs have the same route up to and including the door
  pub runs_have_routes_of_their_own : {k k' : Piece} {i j : ℕ} → At k (runs f₀ g₀ (routed while_open)) i → At k' (runs f₀ g₀ (routed while_open)) j
      → same_to_door f₀ g₀ k.first.route k'.first.route ≡ true → i ≡ j
  runs_have_routes_of_their_own {k} {k'} {i} {j} a b same = by_reach (F.ends f₀) refl
    where
      by_reach : (c : Bool) → F.ends f₀ ≡ c → i ≡ j
      by_reach true ended = absurd (at_no_place (rw (out_of_reach_no_runs ended) at a))
      by_reach false passed = Visits.runs_have_routes_of_their_own f₀ g₀ through (an_end_is_no_door S passed) shut_through a b same

  -- the crossings
  pub crossings_once_shut_are_those_left : crossings once ≡ crossings_left f₀ g₀ while_open
  crossings_once_shut_are_those_left = ap crossings shutting_prunes ∙ crossings_once_shut f₀ g₀ while_open

  pub crossings_while_open_are_those_and_the_lost : crossings while_open ≡ crossings once + crossings_lost f₀ g₀ while_open
  crossings_while_open_are_those_and_the_lost =
      crossings_while_open f₀ g₀ while_open ∙ ap (λ (t : Sight). crossings t + crossings_lost f₀ g₀ while_open) (sym shutting_prunes)

  -- ---- opening

  -- the listing under the open setting is the listing under the shut one with each row on the door replaced by its run
  pub opening_replaces_each_door_row : routed while_open ≡ open_rows F (is_door f₀ g₀) (unentered M p) (routed once)
  opening_replaces_each_door_row = open_rows_are_opened F (shutting_stops S) A M p (some_line L.linked) L.are_faces

  -- shutting and then opening returns the first list, and so does opening and then shutting
  pub shut_then_opened : open_rows F (is_door f₀ g₀) (unentered M p) (shut_rows f₀ g₀ (routed while_open)) ≡ routed while_open
  shut_then_opened = ap (open_rows F (is_door f₀ g₀) (unentered M p)) (sym shutting_replaces_each_run) ∙ sym opening_replaces_each_door_row

  pub opened_then_shut : shut_rows f₀ g₀ (open_rows F (is_door f₀ g₀) (unentered M p) (routed once)) ≡ routed once
  opened_then_shut = ap (shut_rows f₀ g₀) (sym opening_replaces_each_door_row) ∙ sym shutting_replaces_each_run

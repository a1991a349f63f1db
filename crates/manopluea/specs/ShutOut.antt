-- Wrong versions, which the laws of proofs/ShutOut.antt shut out (document 01, "What the promises have to say").
use Rattle.std.specs.Prelude.{true, false, ◌&&◌, List, [], ◌∷◌, ◌++◌, ℕ, ℤ, Err, Ok, Result}
use Rattle.std.proofs.lemmas.List.Edits.{sets}
use Rattle.limits.specs.declared.Refusal.TheVariants.{Room}
use Rattle.cells.specs.Lists.{Cells, cell_count, next, start}
use Rattle.cells.specs.Cut.{cells_of}
use Rattle.reach.specs.Reach.{range}
use Rattle.fan.specs.Sight.{Floor, Sight, follow, lines_around, unentered, numbers, row_count, crossings}
use Rattle.fan.specs.Sight.Sight.{row, both, cut}
use Rattle.sight.specs.Listing.{plan_floor, standing, viewed, refuse, no_room}
use Rattle.sight.specs.declared.view.Query.{Query}
use Rattle.runs.specs.Route.{Routed}
use Rattle.runs.specs.Door.{on_door}
use Rattle.runs.specs.Shutting.{Piece, pieces, is_run, door_row, shut_rows}
use Rattle.sight.specs.declared.list.Counts.{Counts}
use Rattle.limits.specs.declared.Refusal.{Refusal}
use Rattle.sight.specs.declared.view.View.{View}

-- ---- a listing that expands the first of the lines around the stand fully and treats the others as walls

-- lines as walls, free or not: one row each, with the line's two ends as limits
unfoldable pub as_walls : Cells → List ℕ → Sight
as_walls T [] = cut
as_walls T (f ∷ []) = row f (start T f) (start T (next T f)) 0
as_walls T (f ∷ g ∷ fs) = both (row f (start T f) (start T (next T f)) 0) (as_walls T (g ∷ fs))

-- the first line, and the others as walls
unfoldable pub first_line_alone : Floor → ℕ → Cells → List ℕ → Sight
first_line_alone F n T [] = cut
first_line_alone F n T (f ∷ fs) = both (follow F n f (start T f) (start T (next T f))) (as_walls T fs)

abbrev pub sight_listed : Sight → List ℕ → Result Counts Refusal × List ℕ
sight_listed t table = (Ok (record { rows = row_count t; crossings = crossings t }), sets table 0 (numbers t))

abbrev pub first_line_listed_from : List ℤ → Cells → List ℕ → ℕ → ℕ → List ℕ → Result View Refusal → Result Counts Refusal × List ℕ
first_line_listed_from cs T ds w R table (Ok v) =
    refuse (no_room cs table) Room table
    (sight_listed
    (first_line_alone (plan_floor cs T ds w R (record { x = v.x; y = v.y })) (unentered (cell_count T) (standing T v.footing)) T
    (lines_around (plan_floor cs T ds w R (record { x = v.x; y = v.y })) (standing T v.footing)))
    table)
first_line_listed_from cs T ds w R table (Err r) = (Err r, table)

-- it refuses as the listing does
abbrev pub other_sides_as_walls : ℕ → List ℤ → List ℕ → List ℕ → Query → List ℕ → Result Counts Refusal × List ℕ
other_sides_as_walls kind cs ts ds a table =
    first_line_listed_from cs (cells_of kind ts) ds a.setting (range a.reach) table (viewed kind cs ts ds a)

-- ---- shutting a door, on rows with their routes

-- the rows of pieces, in order
unfoldable pub rows_of : List Piece → List Routed
rows_of [] = []
rows_of (k ∷ ks) = k.first ∷ k.others ++ rows_of ks

module _ (f₀ g₀ : ℕ) where
  -- only the first run is treated
  unfoldable pub first_run_alone : List Piece → List Routed
  first_run_alone [] = []
  first_run_alone (k ∷ ks) =
      elim (is_run f₀ g₀ k) [ true ↦ door_row f₀ g₀ k ∷ rows_of ks | false ↦ k.first ∷ k.others ++ first_run_alone ks ]

  abbrev pub only_the_first_run : List Routed → List Routed
  only_the_first_run xs = first_run_alone (pieces f₀ g₀ xs)

  -- a row on the door in front of another is made one with it
  unfoldable pub in_front_of : Routed → List Routed → List Routed
  in_front_of x [] = x ∷ []
  in_front_of x (y ∷ ys) =
      elim (on_door f₀ g₀ x && on_door f₀ g₀ y) [
        | true ↦ record { row = record { face = x.row.face; right = x.row.right; left = y.row.left; far = x.row.far }; route = x.route } ∷ ys
        | false ↦ x ∷ y ∷ ys
      ]

  unfoldable pub joined_on_the_door : List Routed → List Routed
  joined_on_the_door [] = []
  joined_on_the_door (x ∷ xs) = in_front_of x (joined_on_the_door xs)

  -- adjacent runs are joined, because their face is equal
  abbrev pub adjacent_runs_joined : List Routed → List Routed
  adjacent_runs_joined xs = joined_on_the_door (shut_rows f₀ g₀ xs)

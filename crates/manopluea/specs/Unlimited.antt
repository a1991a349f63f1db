-- Where no reach is stated the rows are document 01's, with 0 after each (document 02, A5), of any count and table.
use Rattle.std.specs.Prelude.{List, [], ◌∷◌, ◌≡◌, ℕ, ◌*◌, take, ℤ, Ok, Some}
use Rattle.plane.specs.Side.{Point}
use Rattle.cells.specs.Lists.{Cells, cell_count}
use Rattle.cells.specs.Cut.{cells_of}
use Rattle.setting.specs.Setting.{ends}
use Rattle.stand.specs.Spot.{stood}
use Rattle.stand.specs.Find.{located}
use Rattle.stand.specs.declared.spot.Stand.{Stand}
use Rattle.stand.specs.declared.locate.Footing.{Footing}
use Rattle.fan.specs.Sight.{Floor, Row, seen_from, rows, row_count, crossings}
use Rattle.runs.specs.Floors.{ending}
use Rattle.sight.specs.Listing.{plan_floor, standing}

-- sight ends at a wall or a shut door and nowhere else, and all is in reach
abbrev pub walls_alone : List ℤ → Cells → List ℕ → ℕ → Point → Floor
walls_alone cs T ds w q = ending (plan_floor cs T ds w 0 q) (ends T ds w) (λ f. 0)

-- face, right limit and left limit, with 0 after each row
unfoldable pub with_0_after_each : List Row → List ℕ
with_0_after_each [] = []
with_0_after_each (r ∷ rs) = r.face ∷ r.right ∷ r.left ∷ 0 ∷ with_0_after_each rs

-- n rows of a table and k crossings
pub record AsBefore (kind : ℕ) (cs : List ℤ) (ts ds : List ℕ) (w : ℕ) (s : Stand) (n k : ℕ) (table : List ℕ) : Type 0 where
  pub x : ℤ
  pub y : ℤ
  pub the_stand : stood cs s ≡ Some (x, y)
  pub place : Footing
  pub its_place : located cs (cells_of kind ts) ds w (record { x = x; y = y }) ≡ Ok place
  pub the_rows : take (4 * n) table ≡ with_0_after_each (rows (seen_from (walls_alone cs (cells_of kind ts) ds w (record { x = x; y = y })) (cell_count (cells_of kind ts)) (standing (cells_of kind ts) place)))
  pub the_row_count : n ≡ row_count (seen_from (walls_alone cs (cells_of kind ts) ds w (record { x = x; y = y })) (cell_count (cells_of kind ts)) (standing (cells_of kind ts) place))
  pub the_crossings : k ≡ crossings (seen_from (walls_alone cs (cells_of kind ts) ds w (record { x = x; y = y })) (cell_count (cells_of kind ts)) (standing (cells_of kind ts) place))

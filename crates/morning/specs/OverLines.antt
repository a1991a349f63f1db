-- What the call comes to on a plan and under a setting that are accepted: each stand's listing, and room for all.
use Rattle.std.specs.Prelude.{List, ℕ, ◌*◌, ◌≤◌, replicate, ℤ, Option, Result}
use Rattle.limits.specs.Limits.{most_stands}
use Rattle.cells.specs.Lists.{Cells, corner_count}
use Rattle.reach.specs.Reach.{range}
use Rattle.stand.specs.Spot.{stood}
use Rattle.stand.specs.declared.spot.Stand.{Stand}
use Rattle.sight.specs.Listing.{view_of_spot, listed_from}
use Rattle.sight.specs.Ceiling.{up_to}
use Rattle.sight.specs.declared.list.Counts.{Counts}
use Rattle.limits.specs.declared.Refusal.{Refusal}

-- the listing of a stand on a plan and under a setting that are accepted: what is left to ask is the stand and the table
unfoldable pub listed_on : List ℤ → Cells → List ℕ → ℕ → Option ℕ → Option ℕ → Stand → List ℕ → Result Counts Refusal × List ℕ
listed_on cs T ds w r c s table = up_to c table (listed_from cs T ds w (range r) table (view_of_spot cs T ds w r (stood cs s)))

-- with a table of 4·corners numbers
unfoldable pub single_on : List ℤ → Cells → List ℕ → ℕ → Option ℕ → Option ℕ → Stand → Result Counts Refusal × List ℕ
single_on cs T ds w r c s = listed_on cs T ds w r c s (replicate (4 * corner_count cs) 0)

-- n stands are not too many, and each has room in a table of so many numbers and in so many places for the replies
pub record RoomFor (n : ℕ) (cs : List ℤ) (room places : ℕ) : Type 0 where
  pub few_stands : n ≤ most_stands
  pub table_long : 4 * corner_count cs * n ≤ room
  pub replies_long : 3 * n ≤ places

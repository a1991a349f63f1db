-- Request A1 of document 02, of any counts, table and replies: they are those of single calls, one after another, each with the one setting, the one reach
-- and the one ceiling.
use Rattle.std.specs.Prelude.{List, ◌≡◌, ℕ, ◌*◌, ◌≤◌, length, get_or, take, drop, ℤ, Ok}
use Rattle.cells.specs.Lists.{corner_count}
use Rattle.cells.specs.Cut.{cells_of}
use Rattle.stand.specs.declared.spot.Stand.{Stand}
use Rattle.sight.specs.Ceiling.{listed_up_to}
use Rattle.fan.specs.Once.{At}
use Rattle.morning.specs.declared.Morning.{Morning}
use Rattle.morning.specs.Morning.{rows_of, three_of, query_of, single, rows_in_all, crossings_in_all}
use Rattle.manopluea.specs.Conditions.{lowest, single_conditions}
use Rattle.manopluea.specs.Demands.{Sighted}

module _ (kind : ℕ) (cs : List ℤ) (ts ds : List ℕ) (m : Morning) (ss : List Stand) where
  -- the rows of the stands before place i
  abbrev pub rows_before : ℕ → ℕ
  rows_before i = rows_in_all (single kind cs ts ds m) (take i ss)

  -- at place i stands what the listing of s gives, called alone with the table `lent`
  pub record SingleCall (i : ℕ) (s : Stand) (lent table replies : List ℕ) : Type 0 where
    -- reply number, row count and crossings
    pub reply : take 3 (drop (3 * i) replies) ≡ three_of (listed_up_to kind cs ts ds (query_of m s) m.ceiling lent).0
    -- by the exact condition: the first of 8, 15, 9, 10 and 19 that applies to it, or 0
    pub by_condition : get_or replies (3 * i) 0 ≡ (lowest (single_conditions cs (cells_of kind ts) ds m s)).0
    -- its rows, behind those of the stands before
    pub rows : take (4 * rows_of (listed_up_to kind cs ts ds (query_of m s) m.ceiling lent).0) (drop (4 * rows_before i) table) ≡ take (4 * rows_of (listed_up_to kind cs ts ds (query_of m s) m.ceiling lent).0) (listed_up_to kind cs ts ds (query_of m s) m.ceiling lent).1
    -- so demand 2 holds for them
    pub sighted : (n k : ℕ) → (listed_up_to kind cs ts ds (query_of m s) m.ceiling lent).0 ≡ Ok (record { rows = n; crossings = k }) → Sighted kind cs ts ds (query_of m s) n k (drop (4 * rows_before i) table)

  pub record SingleCalls (n k : ℕ) (table₀ table replies₀ replies : List ℕ) : Type 0 where
    -- each stand, with any table of 4·corners numbers
    pub each : (i : ℕ) (s : Stand) → At s ss i → (lent : List ℕ) → 4 * corner_count cs ≤ length lent → SingleCall i s lent table replies
    -- the counts are the sums
    pub rows_added : n ≡ rows_in_all (single kind cs ts ds m) ss
    pub crossings_added : k ≡ crossings_in_all (single kind cs ts ds m) ss
    -- beyond what was written the table and the replies keep their values
    pub table_beyond : drop (4 * n) table ≡ drop (4 * n) table₀
    pub replies_beyond : drop (3 * length ss) replies ≡ drop (3 * length ss) replies₀

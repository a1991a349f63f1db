-- The listing with a ceiling of crossings (document 02, A13).
use Rattle.std.specs.Prelude.{Bool, true, false, List, ℕ, ◌+◌, ltb, ℤ, Err, None, Ok, Option, Result, Some}
use Rattle.std.proofs.lemmas.List.Edits.{sets}
use Rattle.limits.specs.declared.Refusal.TheVariants as No
use Rattle.fan.specs.Sight.{Sight, numbers, row_count, crossings}
use Rattle.sight.specs.Listing.{refuse, listed}
use Rattle.sight.specs.declared.view.Query.{Query}
use Rattle.sight.specs.declared.list.Counts.{Counts}
use Rattle.limits.specs.declared.Refusal.{Refusal}

-- k crossings exceed the ceiling; where none is stated, no count does
unfoldable pub exceeds : ℕ → Option ℕ → Bool
exceeds k None = false
exceeds k (Some n) = ltb n k

-- an answer whose crossings exceed the ceiling is refused with 19, and the table keeps its contents; every other answer stays as it is, and its table
abbrev pub answer_up_to : Option ℕ → List ℕ → List ℕ → Result Counts Refusal → Result Counts Refusal × List ℕ
answer_up_to c before after (Ok n) = refuse (exceeds n.crossings c) No.Ceiling before (Ok n, after)
answer_up_to c before after (Err r) = (Err r, after)

abbrev pub up_to : Option ℕ → List ℕ → Result Counts Refusal × List ℕ → Result Counts Refusal × List ℕ
up_to c table p = answer_up_to c table p.1 p.0

-- the listing with a ceiling: plan, query, ceiling and table
unfoldable pub listed_up_to : ℕ → List ℤ → List ℕ → List ℕ → Query → Option ℕ → List ℕ → Result Counts Refusal × List ℕ
listed_up_to k cs ts ds a c table = up_to c table (listed k cs ts ds a table)

-- ---- what the code is given

-- a tree's rows from the beginning of a table on, row count and crossings
abbrev pub tree_up_to : Option ℕ → List ℕ → Sight → Result Counts Refusal × List ℕ
tree_up_to c table t = up_to c table (Ok (record { rows = row_count t; crossings = crossings t }), sets table 0 (numbers t))

-- no listing has so many crossings
abbrev pub enough : ℕ
enough = 9223372036854775808

-- the passages that are left at first: one more than the ceiling, so that none is left when it is passed
unfoldable pub allowance : ℕ → ℕ
allowance n = elim (ltb n enough) [ true ↦ n + 1 | false ↦ enough ]

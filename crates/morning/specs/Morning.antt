-- A morning's stands together (document 02, A1, A5 and A13): the rows of each stand's own listing, one after another, and three numbers a stand.
use Rattle.std.specs.Prelude.{List, [], ◌∷◌, ◌++◌, ℕ, ◌+◌, ◌*◌, length, get_or, take, replicate, ℤ, Err, Ok, Result}
use Rattle.std.proofs.lemmas.List.Edits.{sets}
use Rattle.cells.specs.Lists.{corner_count}
use Rattle.grant.specs.Asked.{asked}
use Rattle.stand.specs.declared.spot.Stand.{Stand}
use Rattle.sight.specs.Ceiling.{listed_up_to}
use Rattle.sight.specs.Reply.{listed_reply}
use Rattle.sight.specs.declared.view.Query.{Query}
use Rattle.morning.specs.declared.Morning.{Morning}
use Rattle.sight.specs.declared.list.Counts.{Counts}
use Rattle.limits.specs.declared.Plan.{Plan}
use Rattle.limits.specs.declared.Refusal.{Refusal}

-- row count and crossings of a listing, 0 where it is refused
abbrev pub rows_of : Result Counts Refusal → ℕ
rows_of a = get_or (listed_reply a).values 0 0

abbrev pub crossings_of : Result Counts Refusal → ℕ
crossings_of a = get_or (listed_reply a).values 1 0

-- a stand's reply: its number, its row count and its crossings
abbrev pub three_of : Result Counts Refusal → List ℕ
three_of a = (listed_reply a).number ∷ rows_of a ∷ crossings_of a ∷ []

-- the rows that a listing has written to its table
abbrev pub rows_in : Result Counts Refusal × List ℕ → List ℕ
rows_in p = take (4 * rows_of p.0) p.1

-- what each stand has, in the order given: one after another, or added up
unfoldable pub one_after_another : (Stand → List ℕ) → List Stand → List ℕ
one_after_another f [] = []
one_after_another f (s ∷ ss) = f s ++ one_after_another f ss

unfoldable pub in_all : (Stand → ℕ) → List Stand → ℕ
in_all f [] = 0
in_all f (s ∷ ss) = f s + in_all f ss

-- of listings of each stand: rows and crossings of all stands
abbrev pub rows_in_all : (Stand → Result Counts Refusal × List ℕ) → List Stand → ℕ
rows_in_all listing = in_all (λ s. rows_of (listing s).0)

abbrev pub crossings_in_all : (Stand → Result Counts Refusal × List ℕ) → List Stand → ℕ
crossings_in_all listing = in_all (λ s. crossings_of (listing s).0)

-- the rows of all stands, and three numbers a stand
abbrev pub all_rows : (Stand → Result Counts Refusal × List ℕ) → List Stand → List ℕ
all_rows listing = one_after_another (λ s. rows_in (listing s))

abbrev pub all_replies : (Stand → Result Counts Refusal × List ℕ) → List Stand → List ℕ
all_replies listing = one_after_another (λ s. three_of (listing s).0)

-- what the single listing of one of the stands is asked
abbrev pub query_of : Morning → Stand → Query
query_of m s = record { setting = m.setting; stand = s; reach = m.reach }

-- the single listing of a stand with the one ceiling, in a table of 4·corners numbers; the cells are in a list of kind k
unfoldable pub single : ℕ → List ℤ → List ℕ → List ℕ → Morning → Stand → Result Counts Refusal × List ℕ
single k cs ts ds m s = listed_up_to k cs ts ds (query_of m s) m.ceiling (replicate (4 * corner_count cs) 0)

-- the answer, the table and the replies at exit: on a refusal they keep their contents, and beyond the numbers written they keep their values
abbrev pub stands_from : (Stand → Result Counts Refusal × List ℕ) → List Stand → List ℕ → List ℕ → Result Plan Refusal → Result Counts Refusal × (List ℕ × List ℕ)
stands_from listing ss table replies (Ok p) = (
  Ok (record { rows = rows_in_all listing ss; crossings = crossings_in_all listing ss }),
  (sets table 0 (all_rows listing ss), sets replies 0 (all_replies listing ss)),
)
stands_from listing ss table replies (Err r) = (Err r, (table, replies))

-- as many of the stands as are asked for
unfoldable pub listed_stands : ℕ → List ℤ → List ℕ → List ℕ → Morning → List Stand → List ℕ → List ℕ → Result Counts Refusal × (List ℕ × List ℕ)
listed_stands k cs ts ds m stands table replies =
    stands_from (single k cs ts ds m) (take m.count stands) table replies (asked k cs ts ds m.setting m.count (length table) (length replies))

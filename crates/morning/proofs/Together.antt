-- The whole call: it is refused before any stand is looked at, or it is the single listings one after another.
use mathlib.Core.List.{List, ◌∷◌, ◌++◌, append_assoc}
use mathlib.Core.Path.{◌≡◌, refl, sym, ap, ap₂, ◌∙◌, subst}
use Prim.Native.Nat.{ℕ, suc, ◌*◌, ◌≤◌}
use native.Mathlib.Nat.{mul_assoc, mul-le-mul, le_refl}
use native.Mathlib.Omega.{arith}
use lib.ListN.{length, take, drop, replicate, length-take, length-replicate}
use lib.Seq.{sets, take_at, drop_at, length-take-le}
use lib.IntN.{ℤ}
use Rattle.exact.proofs.Lent.{written_from_the_beginning, first_is_new, rest_is_kept}
use Rattle.limits.specs.Limits.{most_stands}
use Rattle.limits.specs.declared.Refusal.{Refusal}
use Rattle.cells.specs.Lists.{Cells, corner_count}
use Rattle.cells.specs.Cut.{cells_of}
use Rattle.cells.specs.Sound.{Sound}
use Rattle.stand.specs.declared.spot.Stand.{Stand}
use Rattle.sight.specs.Ceiling.{listed_up_to}
use Rattle.fan.specs.Once.{At}
use Rattle.fan.specs.Once.At.{first, later}
use Rattle.fan.proofs.Tables.{place_is_within}
use Rattle.morning.specs.declared.Morning.{Morning}
use Rattle.morning.specs.Morning.{rows_of, three_of, rows_in, one_after_another, query_of, single, rows_in_all, crossings_in_all, all_rows, all_replies, stands_from, listed_stands}
use Rattle.morning.specs.OverLines.{single_on, RoomFor}
use Rattle.grant.specs.Asked.{asked, Granted}
use Rattle.grant.proofs.Grants.{Grant, grant_says}
use Rattle.morning.proofs.Single.{Small, AsSingle, single_by_spot, listed_as_single}
use Rattle.morning.proofs.Each.{followed_by, rows_are_four_numbers, replies_are_three_numbers, few_rows_in_all}
use Rattle.sight.specs.declared.list.Counts.{Counts}
use Rattle.limits.specs.declared.Plan.{Plan}
use Rattle.std.specs.Prelude.{Err, Ok, Result}

module _ (k : ℕ) (cs : List ℤ) (ts ds : List ℕ) (m : Morning) (stands : List Stand) (table replies : List ℕ) where
  pub call_refused : {r : Refusal} → asked k cs ts ds m.setting m.count (length table) (length replies) ≡ Err r → ◌≡◌ {A = Result Counts Refusal × (List ℕ × List ℕ)} (Err r, (table, replies)) (listed_stands k cs ts ds m stands table replies)
  unfolding listed_stands
  call_refused e = ap (stands_from (single k cs ts ds m) (take m.count stands) table replies) (sym e)

  -- what is listed on the plan's tables is listed alone
  module _ {T : Cells} (is_T : T ≡ cells_of k ts) (granted : Granted k cs ts ds m.setting m.count (length table) (length replies)) where
    grant : Grant k cs ts ds m.setting m.count (length table) (length replies)
    grant = grant_says k cs ts ds m.setting m.count (length table) (length replies) granted

    pub sound_on_the_tables : Sound cs T ds
    sound_on_the_tables = subst (λ (T : Cells). Sound cs T ds) (sym is_T) grant.sound

    pub room_for_all : RoomFor m.count cs (length table) (length replies)
    room_for_all = record { few_stands = grant.few_stands; table_long = grant.table_long; replies_long = grant.replies_long }

    on_the_tables : single_on cs T ds m.setting m.reach m.ceiling ≡ single k cs ts ds m
    on_the_tables = λ i s. (ap (λ (T : Cells). single_on cs T ds m.setting m.reach m.ceiling s) is_T ∙ sym (single_by_spot k cs ts ds m grant.plan_accepted grant.setting_right s)) i

    pub call_done : {i j : ℕ} {new new_replies : List ℕ} → (i ≡ rows_in_all (single_on cs T ds m.setting m.reach m.ceiling) (take m.count stands)) × ((j ≡ crossings_in_all (single_on cs T ds m.setting m.reach m.ceiling) (take m.count stands)) × ((new ≡ sets table 0 (all_rows (single_on cs T ds m.setting m.reach m.ceiling) (take m.count stands))) × (new_replies ≡ sets replies 0 (all_replies (single_on cs T ds m.setting m.reach m.ceiling) (take m.count stands))))) → ◌≡◌ {A = Result Counts Refusal × (List ℕ × List ℕ)} (Ok (record { rows = i; crossings = j }), (new, new_replies)) (listed_stands k cs ts ds m stands table replies)
    unfolding listed_stands
    call_done h =
        (λ i. (Ok (record { rows = h.0 i; crossings = h.1.0 i }), (h.1.1.0 i, h.1.1.1 i)))
        ∙ ap₂ (λ (listing : Stand → Result Counts Refusal × List ℕ) (a : Result Plan Refusal). stands_from listing (take m.count stands) table replies a) on_the_tables (sym granted.accepted)

  -- the promise of the call leaves one answer, one table and one list of replies
  pub list_stands_has_one_reply : {r s : Result Counts Refusal × (List ℕ × List ℕ)} → r ≡ listed_stands k cs ts ds m stands table replies → s ≡ listed_stands k cs ts ds m stands table replies → r ≡ s
  list_stands_has_one_reply h e = h ∙ sym e

-- stands beyond the first n are not looked at, and where there are more than 32 none is
pub only_the_first_are_read : (k : ℕ) (cs : List ℤ) (ts ds : List ℕ) (m : Morning) (ss us : List Stand) (table replies : List ℕ) → (m.count ≤ most_stands → take m.count ss ≡ take m.count us) → listed_stands k cs ts ds m ss table replies ≡ listed_stands k cs ts ds m us table replies
unfolding listed_stands
only_the_first_are_read k cs ts ds m ss us table replies same = by_asked (asked k cs ts ds m.setting m.count (length table) (length replies)) refl
  where
    by_asked : (a : Result Plan Refusal) → asked k cs ts ds m.setting m.count (length table) (length replies) ≡ a → stands_from (single k cs ts ds m) (take m.count ss) table replies a ≡ stands_from (single k cs ts ds m) (take m.count us) table replies a
    by_asked (Ok p) e =
        let few = (grant_says k cs ts ds m.setting m.count (length table) (length replies) (record { plan = p; accepted = e })).few_stands in
        ap (λ (l : List Stand). stands_from (single k cs ts ds m) l table replies (Ok p)) (same few)
    by_asked (Err r) e = refl

-- ---- each stand's part

-- the stands before the one at place i, that one, and those after it
around : {s : Stand} {ss : List Stand} {i : ℕ} → At s ss i → ss ≡ take i ss ++ (s ∷ drop (suc i) ss)
around first = refl
around (later {y = u} a) = ap (λ (l : List Stand). u ∷ l) (around a)

-- what stands one after another in lent memory: the part of the stand at place i
part_of : (f : Stand → List ℕ) {s : Stand} {ss : List Stand} {i : ℕ} → At s ss i → (old : List ℕ) → length (one_after_another f ss) ≤ length old → (a b : ℕ) → length (one_after_another f (take i ss)) ≡ a → length (f s) ≡ b → take b (drop a (sets old 0 (one_after_another f ss))) ≡ f s
unfolding one_after_another
part_of f {s} {ss} {i} at old room a b before here =
    let rest = one_after_another f (drop (suc i) ss) in
    let beyond = drop (length (one_after_another f ss)) old in
    let in_three : one_after_another f ss ≡ one_after_another f (take i ss) ++ (f s ++ rest) = ap (one_after_another f) (around at) ∙ followed_by f (take i ss) (s ∷ drop (suc i) ss) in
    let whole : sets old 0 (one_after_another f ss) ≡ one_after_another f (take i ss) ++ (f s ++ (rest ++ beyond)) =
    written_from_the_beginning old (one_after_another f ss) (length (one_after_another f ss)) refl room
    ∙ ap (λ (l : List ℕ). l ++ beyond) in_three
    ∙ append_assoc (one_after_another f (take i ss)) (f s ++ rest) beyond
    ∙ ap (λ (l : List ℕ). one_after_another f (take i ss) ++ l) (append_assoc (f s) rest beyond) in
    ap (λ (l : List ℕ). take b (drop a l)) whole
    ∙ ap (take b) (drop_at (one_after_another f (take i ss)) (f s ++ (rest ++ beyond)) a before)
    ∙ take_at (f s) (rest ++ beyond) b here

module _ (k : ℕ) (cs : List ℤ) (ts ds : List ℕ) (m : Morning) (stands : List Stand) (table replies : List ℕ) (grant : Grant k cs ts ds m.setting m.count (length table) (length replies)) where
  abbrev ss : List Stand
  ss = take m.count stands

  small : (s : Stand) → Small cs (single k cs ts ds m s)
  small s = (listed_as_single k cs ts ds m grant.plan_accepted grant.setting_right s (replicate (4 * corner_count cs) 0) (omega (arith, length-replicate {A = ℕ} (4 * corner_count cs) 0))).small

  no_more : length ss ≤ m.count
  no_more = omega (arith, length-take m.count stands)

  rows_have_room : 4 * rows_in_all (single k cs ts ds m) ss ≤ length table
  rows_have_room =
      let few = few_rows_in_all small ss in
      let at_most : corner_count cs * length ss ≤ corner_count cs * m.count = mul-le-mul (le_refl (corner_count cs)) no_more in
      omega (arith, grant.table_long, mul_assoc 4 (corner_count cs) m.count)

  replies_have_room : 3 * length ss ≤ length replies
  replies_have_room = omega (arith, grant.replies_long, no_more)

  module _ {i : ℕ} {s : Stand} (at : At s ss i) (lent : List ℕ) (room : 4 * corner_count cs ≤ length lent) where
    alone : AsSingle cs lent (single k cs ts ds m s) (listed_up_to k cs ts ds (query_of m s) m.ceiling lent)
    alone = listed_as_single k cs ts ds m grant.plan_accepted grant.setting_right s lent room

    -- three numbers at the stand's place are the reply of the single listing
    pub reply_is_the_single_one : take 3 (drop (3 * i) (sets replies 0 (all_replies (single k cs ts ds m) ss))) ≡ three_of (listed_up_to k cs ts ds (query_of m s) m.ceiling lent).0
    reply_is_the_single_one =
        let i_taken : length (take i ss) ≡ i = length-take-le i ss (omega (arith, place_is_within at)) in
        part_of (λ s. three_of (single k cs ts ds m s).0) at replies (omega (arith, replies_have_room, replies_are_three_numbers (single k cs ts ds m) ss)) (3 * i) 3 (replies_are_three_numbers (single k cs ts ds m) (take i ss) ∙ ap (λ (j : ℕ). 3 * j) i_taken) refl
        ∙ ap three_of (sym alone.same_answer)

    -- the numbers behind the rows of the stands before are the rows of the single listing
    pub rows_are_the_single_ones : take (4 * rows_of (listed_up_to k cs ts ds (query_of m s) m.ceiling lent).0) (drop (4 * rows_in_all (single k cs ts ds m) (take i ss)) (sets table 0 (all_rows (single k cs ts ds m) ss))) ≡ take (4 * rows_of (listed_up_to k cs ts ds (query_of m s) m.ceiling lent).0) (listed_up_to k cs ts ds (query_of m s) m.ceiling lent).1
    rows_are_the_single_ones =
        let as_many : length (rows_in (single k cs ts ds m s)) ≡ 4 * rows_of (listed_up_to k cs ts ds (query_of m s) m.ceiling lent).0 = alone.small.four_a_row ∙ ap (λ (a : Result Counts Refusal). 4 * rows_of a) (sym alone.same_answer) in
        part_of (λ s. rows_in (single k cs ts ds m s)) at table (omega (arith, rows_have_room, rows_are_four_numbers small ss)) (4 * rows_in_all (single k cs ts ds m) (take i ss)) (4 * rows_of (listed_up_to k cs ts ds (query_of m s) m.ceiling lent).0) (rows_are_four_numbers small (take i ss)) as_many
        ∙ sym
        (ap (take (4 * rows_of (listed_up_to k cs ts ds (query_of m s) m.ceiling lent).0)) alone.same_rows
        ∙ first_is_new lent (rows_in (single k cs ts ds m s)) (4 * rows_of (listed_up_to k cs ts ds (query_of m s) m.ceiling lent).0) as_many (omega (arith, alone.small.few_rows, alone.small.four_a_row)))

  pub table_is_kept_beyond : drop (4 * rows_in_all (single k cs ts ds m) ss) (sets table 0 (all_rows (single k cs ts ds m) ss)) ≡ drop (4 * rows_in_all (single k cs ts ds m) ss) table
  table_is_kept_beyond =
      rest_is_kept table (all_rows (single k cs ts ds m) ss) (4 * rows_in_all (single k cs ts ds m) ss) (rows_are_four_numbers small ss) rows_have_room

  pub replies_are_kept_beyond : drop (3 * length ss) (sets replies 0 (all_replies (single k cs ts ds m) ss)) ≡ drop (3 * length ss) replies
  replies_are_kept_beyond =
      rest_is_kept replies (all_replies (single k cs ts ds m) ss) (3 * length ss) (replies_are_three_numbers (single k cs ts ds m) ss) replies_have_room

-- Several stands in one call are single calls, so demand 2 holds for each of them (document 02, A1).
use mathlib.Core.Bool.{Bool, false}
use mathlib.Core.List.{List, [], ◌∷◌, ◌++◌}
use mathlib.Core.Path.{◌≡◌, refl, sym, ap, ◌∙◌, subst}
use Prim.Native.Nat.{ℕ, ◌+◌, ◌*◌, ◌<◌, ◌≤◌}
use native.Mathlib.Nat.{add-zero}
use native.Mathlib.Omega.{arith}
use borrow.Author.Tests.{le-ltb}
use lib.ListN.{length, get_or, take, drop}
use lib.Seq.{sets, get_or-take, get_or-drop}
use lib.IntN.{ℤ}
use Rattle.limits.specs.declared.Plan.{Plan}
use Rattle.cells.specs.Lists.{corner_count}
use Rattle.cells.specs.Cut.{cells_of}
use Rattle.cells.specs.Check.{checked}
use Rattle.setting.specs.Setting.{wrong_setting}
use Rattle.stand.specs.Spot.{stood}
use Rattle.stand.specs.declared.spot.Stand.{Stand}
use Rattle.fan.specs.Sight.{Row}
use Rattle.sight.specs.Ceiling.{up_to, listed_up_to}
use Rattle.sight.specs.Reply.{listed_reply}
use Rattle.fan.specs.Written.{row_at, OneRow}
use Rattle.reach.specs.Reach.{range}
use Rattle.sight.specs.declared.view.Query.{Query}
use Rattle.morning.specs.declared.Morning.{Morning}
use Rattle.morning.specs.Morning.{rows_of, query_of, single, rows_in_all, crossings_in_all, all_rows, all_replies, stands_from, listed_stands}
use Rattle.grant.specs.Asked.{asked}
use Rattle.grant.proofs.Grants.{grant_says}
use Rattle.morning.proofs.Single.{listed_by_spot}
use Rattle.morning.proofs.Together.{reply_is_the_single_one, rows_are_the_single_ones, table_is_kept_beyond, replies_are_kept_beyond}
use Rattle.manopluea.specs.Conditions.{when, lowest, query_conditions, ceiling_conditions, single_conditions}
use Rattle.manopluea.specs.Demands.{Says, Sighted}
use Rattle.manopluea.specs.Together.{SingleCalls}
use Rattle.manopluea.proofs.Replies.{one_does_not_apply, list_by_stand}
use Rattle.manopluea.proofs.Demands.{demand_2}
use Rattle.sight.specs.declared.list.Counts.{Counts}
use Rattle.limits.specs.declared.Refusal.{Refusal}
use Rattle.std.specs.Prelude.{Err, Ok, Result}
use Rattle.limits.proofs.Handed.{ok_same}

-- ---- what demand 2 asks of n rows it asks of the first 4·n numbers only

module _ (n : ℕ) (a b : List ℕ) (same : take (4 * n) a ≡ take (4 * n) b) where
  same_number : (j : ℕ) → j < 4 * n → get_or a j 0 ≡ get_or b j 0
  same_number j h = sym (get_or-take (4 * n) a j 0 h) ∙ ap (λ (l : List ℕ). get_or l j 0) same ∙ get_or-take (4 * n) b j 0 h

  same_row : (i : ℕ) → i < n → row_at a i ≡ row_at b i
  same_row i h =
      let e₀ = same_number (4 * i) (omega arith) in
      let e₁ = same_number (4 * i + 1) (omega arith) in
      let e₂ = same_number (4 * i + 2) (omega arith) in
      let e₃ = same_number (4 * i + 3) (omega arith) in
      λ k. record { face = e₀ k; right = e₁ k; left = e₂ k; far = e₃ k }

  same_one_row : {P : Row → Type 0} {w : Row} → OneRow P a n w → OneRow P b n w
  same_one_row {P} {w} one =
      record {
        place = one.place;
        within = one.within;
        stands = sym (same_row one.place one.within) ∙ one.stands;
        has = one.has;
        no_other = λ i h p. one.no_other i h (subst P (sym (same_row i h)) p);
      }

  same_sighted : {kind : ℕ} {cs : List ℤ} {ts ds : List ℕ} {query : Query} {k : ℕ} → Sighted kind cs ts ds query n k a → Sighted kind cs ts ds query n k b
  same_sighted {kind} {cs} {ts} {ds} {query} seen =
      record {
        x = seen.x;
        y = seen.y;
        the_stand = seen.the_stand;
        place = seen.place;
        its_place = seen.its_place;
        expanded = sym same ∙ seen.expanded;
        counted = seen.counted;
        crossed = seen.crossed;
        held = λ d nonzero clear.
            let once = seen.held d nonzero clear in
            record { row = once.row; one = same_one_row once.one; met = once.met };
        said = λ i h.
            subst (λ (r : Row). Says cs (cells_of kind ts) ds query.setting (range query.reach) (record { x = seen.x; y = seen.y }) r.face r.far) (same_row i h) (seen.said i h);
      }

-- ---- a stand's own reply, by its condition

stand_by_condition : (kind : ℕ) (cs : List ℤ) (ts ds : List ℕ) (m : Morning) {p : Plan} → checked kind cs ts ds ≡ Ok p → wrong_setting m.setting (length ds) ≡ false → (s : Stand) (lent : List ℕ) → 4 * corner_count cs ≤ length lent → (listed_reply (listed_up_to kind cs ts ds (query_of m s) m.ceiling lent).0).number ≡ (lowest (single_conditions cs (cells_of kind ts) ds m s)).0
unfolding lowest listed_up_to
stand_by_condition kind cs ts ds m accepted right s lent room =
    ap (λ (l : Result Counts Refusal × List ℕ). (listed_reply (up_to m.ceiling lent l).0).number) (listed_by_spot kind cs ts ds m accepted right s lent)
    ∙ ap (λ (t : ℕ × ℕ). t.0)
    (list_by_stand cs (cells_of kind ts) ds m.setting m.reach m.ceiling lent (stood cs s)
    ∙ ap (λ (b : Bool). lowest (query_conditions cs (cells_of kind ts) ds m.setting m.reach (stood cs s) ++ (when 11 b 0 ∷ ceiling_conditions cs (cells_of kind ts) ds m.setting m.reach (stood cs s) m.ceiling))) (le-ltb _ _ room)
    ∙ one_does_not_apply (query_conditions cs (cells_of kind ts) ds m.setting m.reach (stood cs s)) 11 0 (ceiling_conditions cs (cells_of kind ts) ds m.setting m.reach (stood cs s) m.ceiling))

-- the first of three numbers that stand from a place on
first_of_three : (l : List ℕ) (a : ℕ) {x y z : ℕ} → take 3 (drop a l) ≡ x ∷ y ∷ z ∷ [] → get_or l a 0 ≡ x
first_of_three l a e =
    let at_a : a + 0 ≡ a = add-zero a in
    sym (ap (λ (k : ℕ). get_or l k 0) at_a) ∙ sym (get_or-drop a l 0 0) ∙ sym (get_or-take 3 (drop a l) 0 0 (omega arith)) ∙ ap (λ (m : List ℕ). get_or m 0 0) e

-- ---- the whole call

module _ (kind : ℕ) (cs : List ℤ) (ts ds : List ℕ) (m : Morning) (stands : List Stand) (table replies : List ℕ) where
  -- whenever the call is done: each stand's reply, counts and rows are those of the listing called alone, the counts are the sums, and beyond what
  -- was written all is as it was
  pub together_is_single_calls : {n k : ℕ} → (listed_stands kind cs ts ds m stands table replies).0 ≡ Ok (record { rows = n; crossings = k }) → SingleCalls kind cs ts ds m (take m.count stands) n k table (listed_stands kind cs ts ds m stands table replies).1.0 replies (listed_stands kind cs ts ds m stands table replies).1.1
  unfolding listed_stands
  together_is_single_calls {n} {k} e = by_asked (asked kind cs ts ds m.setting m.count (length table) (length replies)) refl e
    where
      ss : List Stand
      ss = take m.count stands

      by_asked : (c : Result Plan Refusal) → asked kind cs ts ds m.setting m.count (length table) (length replies) ≡ c → (stands_from (single kind cs ts ds m) ss table replies c).0 ≡ Ok (record { rows = n; crossings = k }) → SingleCalls kind cs ts ds m ss n k table (stands_from (single kind cs ts ds m) ss table replies c).1.0 replies (stands_from (single kind cs ts ds m) ss table replies c).1.1
      by_asked (Ok p) h answer =
          let grant = grant_says kind cs ts ds m.setting m.count (length table) (length replies) (record { plan = p; accepted = h }) in
          let rows_added : n ≡ rows_in_all (single kind cs ts ds m) ss = sym (ap (λ (m : Counts). m.rows) (ok_same answer)) in
          let crossings_added : k ≡ crossings_in_all (single kind cs ts ds m) ss = sym (ap (λ (m : Counts). m.crossings) (ok_same answer)) in
          record {
            each = λ i s at lent room.
                let rows = rows_are_the_single_ones kind cs ts ds m stands table replies grant at lent room in
                let reply = reply_is_the_single_one kind cs ts ds m stands table replies grant at lent room in
                record {
                  reply = reply;
                  by_condition =
                      first_of_three (sets replies 0 (all_replies (single kind cs ts ds m) ss)) (3 * i) reply
                      ∙ stand_by_condition kind cs ts ds m grant.plan_accepted grant.setting_right s lent room;
                  rows = rows;
                  sighted = λ a b alone.
                      same_sighted a (listed_up_to kind cs ts ds (query_of m s) m.ceiling lent).1 (drop (4 * rows_in_all (single kind cs ts ds m) (take i ss)) (sets table 0 (all_rows (single kind cs ts ds m) ss))) (sym (subst (λ (l : Result Counts Refusal). take (4 * rows_of l) (drop (4 * rows_in_all (single kind cs ts ds m) (take i ss)) (sets table 0 (all_rows (single kind cs ts ds m) ss))) ≡ take (4 * rows_of l) (listed_up_to kind cs ts ds (query_of m s) m.ceiling lent).1) alone rows)) ((demand_2 kind cs ts ds (query_of m s) m.ceiling lent).sighted a b alone);
                };
            rows_added = rows_added;
            crossings_added = crossings_added;
            table_beyond = subst (λ (i : ℕ). drop (4 * i) (sets table 0 (all_rows (single kind cs ts ds m) ss)) ≡ drop (4 * i) table) (sym rows_added) (table_is_kept_beyond kind cs ts ds m stands table replies grant);
            replies_beyond = replies_are_kept_beyond kind cs ts ds m stands table replies grant;
          }
      by_asked (Err r) h answer = absurd (never answer)
        where
          never : ◌≡◌ {A = Result Counts Refusal} (Err r) (Ok (record { rows = n; crossings = k })) → ⊥
          never p = let z : ◌≡◌ {A = ℕ} 0 1 = cc in omega arith

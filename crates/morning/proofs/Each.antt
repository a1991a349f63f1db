-- One stand more: rows, replies and sums so far.
use mathlib.Core.List.{List, [], ◌∷◌, ◌++◌, append_assoc, append-nil}
use mathlib.Core.Path.{◌≡◌, refl, sym, ap, ◌∙◌, subst}
use Prim.Native.Nat.{ℕ, suc, ◌+◌, ◌*◌, ◌-◌, ◌<◌, ◌≤◌}
use native.Mathlib.Nat.{add-zero, mul-suc, mul-add, mul_assoc, mul-le-mul, le_trans, le_refl}
use native.Mathlib.Omega.{arith}
use borrow.Author.Rules.{part_to_end}
use borrow.Rule.Slice.PartMut.{put_mid}
use lib.ListN.{length, get_or, take, drop, length-append, length-drop}
use lib.Seq.{sets, length-sets, length-take-le, take-suc}
use lib.IntN.{ℤ}
use Rattle.exact.proofs.Lent.{sets_append, part_put_back}
use Rattle.limits.specs.Limits.{most_corners, most_cells}
use Rattle.cells.specs.Lists.{Cells, corner_count}
use Rattle.cells.specs.Sound.{Sound}
use Rattle.cells.proofs.Plans.{counts}
use Rattle.stand.specs.declared.spot.Stand.{Stand}
use Rattle.morning.specs.Morning.{rows_of, crossings_of, three_of, rows_in, one_after_another, in_all, rows_in_all, crossings_in_all, all_rows, all_replies}
use Rattle.morning.specs.OverLines.{listed_on, single_on, RoomFor}
use Rattle.morning.proofs.Single.{Small, AsSingle, listed_on_as_single, single_on_is_small}
use Rattle.sight.specs.declared.list.Counts.{Counts}
use Rattle.limits.specs.declared.Refusal.{Refusal}
use Rattle.std.specs.Prelude.{Option, Result}

-- ---- one after another, and in all

pub followed_by : (f : Stand → List ℕ) (ss us : List Stand) → one_after_another f (ss ++ us) ≡ one_after_another f ss ++ one_after_another f us
unfolding one_after_another
followed_by f [] us = refl
followed_by f (s ∷ ss) us = ap (λ (l : List ℕ). f s ++ l) (followed_by f ss us) ∙ sym (append_assoc (f s) (one_after_another f ss) (one_after_another f us))

added_to : (f : Stand → ℕ) (ss us : List Stand) → in_all f (ss ++ us) ≡ in_all f ss + in_all f us
unfolding in_all
added_to f [] us = omega arith
added_to f (s ∷ ss) us = omega (arith, added_to f ss us)

-- a last stand
and_the_last : (f : Stand → List ℕ) (ss : List Stand) (s : Stand) → one_after_another f (ss ++ (s ∷ [])) ≡ one_after_another f ss ++ f s
unfolding one_after_another
and_the_last f ss s = followed_by f ss (s ∷ []) ∙ ap (λ (l : List ℕ). one_after_another f ss ++ l) (append-nil (f s))

with_the_last : (f : Stand → ℕ) (ss : List Stand) (s : Stand) → in_all f (ss ++ (s ∷ [])) ≡ in_all f ss + f s
unfolding in_all
with_the_last f ss s = added_to f ss (s ∷ []) ∙ ap (λ (n : ℕ). in_all f ss + n) (add-zero (f s))

-- so many of each is so many in all
at_most_each : (f : Stand → ℕ) (m : ℕ) → ((s : Stand) → f s ≤ m) → (ss : List Stand) → in_all f ss ≤ m * length ss
unfolding in_all
at_most_each f m h [] = omega arith
at_most_each f m h (s ∷ ss) =
    let one = h s in
    let more = at_most_each f m h ss in
    omega (arith, mul-suc m (length ss))

-- the numbers of each are so many
long_in_all : (f : Stand → List ℕ) (g : Stand → ℕ) (m : ℕ) → ((s : Stand) → length (f s) ≡ m * g s) → (ss : List Stand) → length (one_after_another f ss) ≡ m * in_all g ss
unfolding one_after_another in_all
long_in_all f g m h [] = omega arith
long_in_all f g m h (s ∷ ss) =
    length-append (f s) (one_after_another f ss)
    ∙ omega (arith, h s, long_in_all f g m h ss, mul-add m (g s) (in_all g ss))

-- one of each is as many as there are stands
one_each : (ss : List Stand) → in_all (λ s. 1) ss ≡ length ss
unfolding in_all
one_each [] = refl
one_each (s ∷ ss) = omega (arith, one_each ss)

-- ---- small listings

module _ {cs : List ℤ} {listing : Stand → Result Counts Refusal × List ℕ} (small : (s : Stand) → Small cs (listing s)) where
  pub few_rows_in_all : (ss : List Stand) → rows_in_all listing ss ≤ corner_count cs * length ss
  few_rows_in_all = at_most_each (λ s. rows_of (listing s).0) (corner_count cs) (λ s. (small s).few_rows)

  pub few_crossings_in_all : (ss : List Stand) → crossings_in_all listing ss ≤ most_corners * most_cells * length ss
  few_crossings_in_all = at_most_each (λ s. crossings_of (listing s).0) (most_corners * most_cells) (λ s. (small s).few_crossings)

  pub rows_are_four_numbers : (ss : List Stand) → length (all_rows listing ss) ≡ 4 * rows_in_all listing ss
  rows_are_four_numbers = long_in_all (λ s. rows_in (listing s)) (λ s. rows_of (listing s).0) 4 (λ s. (small s).four_a_row)

pub replies_are_three_numbers : (listing : Stand → Result Counts Refusal × List ℕ) (ss : List Stand) → length (all_replies listing ss) ≡ 3 * length ss
replies_are_three_numbers listing ss = long_in_all (λ s. three_of (listing s).0) (λ s. 1) 3 (λ s. refl) ss ∙ ap (λ (n : ℕ). 3 * n) (one_each ss)

-- before stand i: few rows and crossings yet, and room for its own
pub record Next (cs : List ℤ) (i rows crossings : ℕ) (table replies : List ℕ) : Type 0 where
  pub few_rows : rows ≤ most_corners * i
  pub few_crossings : crossings ≤ most_corners * most_cells * i
  pub room_left : 4 * rows + 4 * corner_count cs ≤ length table
  pub places_left : 3 * i + 3 ≤ length replies

module _ (listing : Stand → Result Counts Refusal × List ℕ) (stands : List Stand) where
  -- rows, crossings, table and replies after the first i stands
  pub record SoFar (i rows crossings : ℕ) (table₀ table replies₀ replies : List ℕ) : Type 0 where
    pub rows_are : rows ≡ rows_in_all listing (take i stands)
    pub crossings_are : crossings ≡ crossings_in_all listing (take i stands)
    pub table_is : table ≡ sets table₀ 0 (all_rows listing (take i stands))
    pub replies_are : replies ≡ sets replies₀ 0 (all_replies listing (take i stands))

  pub none_yet : (table replies : List ℕ) → SoFar 0 0 0 table table replies replies
  unfolding one_after_another in_all
  none_yet table replies = record { rows_are = refl; crossings_are = refl; table_is = refl; replies_are = refl }

module _ {listing : Stand → Result Counts Refusal × List ℕ} {stands : List Stand} {i rows crossings : ℕ} {table₀ table replies₀ replies : List ℕ} (so : SoFar listing stands i rows crossings table₀ table replies₀ replies) where
  pub table_keeps_its_length : length table ≡ length table₀
  table_keeps_its_length = ap length so.table_is ∙ length-sets table₀ 0 (all_rows listing (take i stands))

  pub replies_keep_their_length : length replies ≡ length replies₀
  replies_keep_their_length = ap length so.replies_are ∙ length-sets replies₀ 0 (all_replies listing (take i stands))

  abbrev Listed_to : ℕ → Type 0
  Listed_to n =
      (rows ≡ rows_in_all listing (take n stands))
      × ((crossings ≡ crossings_in_all listing (take n stands))
      × ((table ≡ sets table₀ 0 (all_rows listing (take n stands))) × (replies ≡ sets replies₀ 0 (all_replies listing (take n stands)))))

  pub all_listed : (n : ℕ) → i ≡ n → Listed_to n
  all_listed n e = subst Listed_to e (so.rows_are, (so.crossings_are, (so.table_is, so.replies_are)))

-- ---- on an accepted plan: room for n stands is room for stand i

module _ {cs : List ℤ} {T : Cells} {ds : List ℕ} (sound : Sound cs T ds) (w : ℕ) (r : Option ℕ) (c : Option ℕ) where
  abbrev listing : Stand → Result Counts Refusal × List ℕ
  listing = single_on cs T ds w r c

  small : (s : Stand) → Small cs (listing s)
  small = single_on_is_small sound w r c

  few_corners : corner_count cs ≤ most_corners
  few_corners = (counts _ _ _ sound.in_size).corners_at_most

  module _ {stands : List Stand} {i rows crossings : ℕ} {table₀ table replies₀ replies : List ℕ} (so : SoFar listing stands i rows crossings table₀ table replies₀ replies) {n : ℕ} (enough : RoomFor n cs (length table₀) (length replies₀)) (below : i < n) (in_array : n ≤ length stands) where
    taken : length (take i stands) ≡ i
    taken = length-take-le i stands (omega arith)

    pub next : Next cs i rows crossings table replies
    next =
        let all_rows_fit = few_rows_in_all small (take i stands) in
        let all_crossings_fit = few_crossings_in_all small (take i stands) in
        let rows_so : rows ≤ corner_count cs * i = subst (λ (k : ℕ). rows ≤ corner_count cs * k) taken (omega (arith, so.rows_are)) in
        let stands_fit : corner_count cs * suc i ≤ corner_count cs * n = mul-le-mul (omega arith) below in
        let room_for_all : 4 * (corner_count cs * n) ≤ length table₀ = subst (λ (k : ℕ). k ≤ length table₀) (mul_assoc 4 (corner_count cs) n) enough.table_long in
        record {
          few_rows = le_trans rows_so (mul-le-mul few_corners (le_refl i));
          few_crossings = subst (λ (k : ℕ). crossings ≤ most_corners * most_cells * k) taken (omega (arith, so.crossings_are));
          room_left = omega (arith, mul-suc (corner_count cs) i, table_keeps_its_length so);
          places_left = omega (arith, enough.replies_long, replies_keep_their_length so);
        }

    -- the table that is left to it
    abbrev part : List ℕ
    part = take (length table - 4 * rows) (drop (4 * rows) table)

    pub part_has_room : 4 * corner_count cs ≤ length part
    part_has_room = omega (arith, ap length (part_to_end table (4 * rows)), length-drop (4 * rows) table, next.room_left)

    -- after it
    module _ (d : Stand) where
      abbrev stand : Stand
      stand = get_or stands i d

      abbrev here : Result Counts Refusal × List ℕ
      here = listed_on cs T ds w r c stand part

      one : AsSingle cs part (listing stand) here
      one = listed_on_as_single sound w r c stand part part_has_room

      one_more_taken : take (i + 1) stands ≡ take i stands ++ (stand ∷ [])
      one_more_taken =
          let after : i + 1 ≡ suc i = omega arith in
          ap (λ (k : ℕ). take k stands) after ∙ take-suc stands i d (omega arith)

      pub few_here : {m k : ℕ} → m ≡ rows_of here.0 → k ≡ crossings_of here.0 → (m ≤ most_corners) × (k ≤ most_corners * most_cells)
      few_here {m} {k} e f =
          let m_is : m ≡ rows_of (listing stand).0 = e ∙ ap rows_of one.same_answer in
          let k_is : k ≡ crossings_of (listing stand).0 = f ∙ ap crossings_of one.same_answer in
          (omega (arith, m_is, one.small.few_rows, few_corners), omega (arith, k_is, one.small.few_crossings))

      pub one_more : {m k : ℕ} {new new_replies : List ℕ} → (m ≡ rows_of here.0) × ((k ≡ crossings_of here.0) × ((new ≡ here.1) × (new_replies ≡ sets replies (3 * i) (three_of here.0)))) → SoFar listing stands (i + 1) (rows + m) (crossings + k) table₀ (put_mid (4 * rows) (length table - 4 * rows) table new) replies₀ new_replies
      one_more {m} {k} {new} {new_replies} h =
          let ss = take i stands in
          let rows_here : 0 + length (all_rows listing ss) ≡ 4 * rows = omega (arith, rows_are_four_numbers small ss, so.rows_are) in
          let places_here : 0 + length (all_replies listing ss) ≡ 3 * i = omega (arith, replies_are_three_numbers listing ss, taken) in
          let m_is : m ≡ rows_of (listing stand).0 = h.0 ∙ ap rows_of one.same_answer in
          let k_is : k ≡ crossings_of (listing stand).0 = h.1.0 ∙ ap crossings_of one.same_answer in
          record {
            rows_are =
                omega (arith, so.rows_are, m_is, with_the_last (λ s. rows_of (listing s).0) ss stand)
                ∙ ap (rows_in_all listing) (sym one_more_taken);
            crossings_are =
                omega (arith, so.crossings_are, k_is, with_the_last (λ s. crossings_of (listing s).0) ss stand)
                ∙ ap (crossings_in_all listing) (sym one_more_taken);
            table_is =
                part_put_back table (rows_in (listing stand)) (4 * rows) (omega (arith, next.room_left)) (h.1.1.0 ∙ one.same_rows)
                ∙ ap (λ (t : List ℕ). sets t (4 * rows) (rows_in (listing stand))) so.table_is
                ∙ ap (λ (a : ℕ). sets (sets table₀ 0 (all_rows listing ss)) a (rows_in (listing stand))) (sym rows_here)
                ∙ sets_append table₀ 0 (all_rows listing ss) (rows_in (listing stand))
                ∙ ap (sets table₀ 0) (sym (and_the_last (λ s. rows_in (listing s)) ss stand) ∙ ap (all_rows listing) (sym one_more_taken));
            replies_are =
                h.1.1.1
                ∙ ap (λ (a : Result Counts Refusal). sets replies (3 * i) (three_of a)) one.same_answer
                ∙ ap (λ (t : List ℕ). sets t (3 * i) (three_of (listing stand).0)) so.replies_are
                ∙ ap (λ (a : ℕ). sets (sets replies₀ 0 (all_replies listing ss)) a (three_of (listing stand).0)) (sym places_here)
                ∙ sets_append replies₀ 0 (all_replies listing ss) (three_of (listing stand).0)
                ∙ ap (sets replies₀ 0) (sym (and_the_last (λ s. three_of (listing s).0) ss stand) ∙ ap (all_replies listing) (sym one_more_taken));
          }

-- `overlap::least_overlapping` meets its contract.
use mathlib.Core.List.{List}
use mathlib.Core.Path.{◌≡◌, refl, sym, subst, ◌∙◌}
use Prim.Native.Nat.{ℕ, ◌<◌, ◌≤◌}
use native.Mathlib.Omega.{arith}
use borrow.Author.Tests.{lt-ltb, le-ltb}
use lib.IntN.{ℤ}
use lib.ListN.{length, get_or, take}
use lib.Seq.{length-take-le, get_or-take}
use Rattle.std.specs.Prelude.{Some, None}
use Rattle.cells.specs.Least.{before}
use Rattle.cells.specs.Lists.{Cells, cell_count}
use Rattle.cells.specs.Check.{first_overlapping}
use Rattle.cells.proofs.Plans.{corners_exist}
use Rattle.boxes.specs.Parts.{Listed}
use Rattle.overlap.specs.Search.{Settles}
use Rattle.overlap.proofs.Halves.{settled_is_least}
use Rattle.overlap.proofs.least_overlapping.Goals as goal
use Rattle.overlap.proofs.least_overlapping.Goals.{After-list_all}

-- a list whose place c holds c, for each c less than m
module _ (xs : List ℕ) {m : ℕ} (room : m ≤ length xs) (counts : (c : ℕ) → c < m → get_or xs c 0 ≡ c) where
  all_length : length (take m xs) ≡ m
  all_length = length-take-le m xs room

  all_stand : (c : ℕ) → c < m → (c < length (take m xs)) × (get_or (take m xs) c 0 ≡ c)
  all_stand c h = (omega (arith, all_length), get_or-take m xs c 0 h ∙ counts c h)

  all_are_listed : Listed m (take m xs)
  all_are_listed =
      record {
        exists = λ c h.
            let k : c < m = omega (arith, all_length) in
            subst (λ (d : ℕ). d < m) (sym (all_stand c k).1) k;
      }

  -- what is settled for it is the least cell of any pair
  the_least : (cs : List ℤ) (T : Cells) → m ≡ cell_count T → {r : ℕ} → Settles cs T (take m xs) m r → r ≡ first_overlapping cs T
  the_least cs T is_m {r} settled =
      settled_is_least cs T (λ c h. all_stand c (omega (arith, is_m))) (subst (λ (n : ℕ). Settles cs T (take m xs) n r) is_m settled)

-- it, or none
module _ {m n r k : ℕ} (is_m : m ≡ n) (is_k : r ≡ k) where
  found_it : r < m → Some r ≡ before n k
  found_it h = rw (is_k, lt-ltb k n (omega arith), before) refl

  found_none : m ≤ r → None ≡ before n k
  found_none h = rw (le-ltb k n (omega arith), before) refl

-- the table that lists all cells is long enough
room : (c : After-list_all) → c.count-m.result ≤ length c.list_all.new.list
room c = omega (arith, c.requires.few, c.count-m.ensures, c.list_all.ensures.list_len_unchanged)

pub note-requires-clause-corners_exist : goal.note-requires-clause-corners_exist
note-requires-clause-corners_exist c = corners_exist c.requires.ready.numbered c.requires.ready.right

pub search-found-requires-clause-listed : goal.search-found-requires-clause-listed
search-found-requires-clause-listed c = rw (← c.count-m.ensures) (all_are_listed _ (room (goal.at.search-found-requires-clause-listed c).After-list_all) c.list_all.ensures.by_index)

pub returns-then-found-m-clause-value : goal.returns-then-found-m-clause-value
returns-then-found-m-clause-value c = found_it c.count-m.ensures (the_least _ (room (goal.at.returns-then-found-m-clause-value c).After-list_all) c.list_all.ensures.by_index _ _ c.count-m.ensures c.search-found.ensures) c.if-found-m.true

pub returns-else-found-m-clause-value : goal.returns-else-found-m-clause-value
returns-else-found-m-clause-value c = found_none c.count-m.ensures (the_least _ (room (goal.at.returns-else-found-m-clause-value c).After-list_all) c.list_all.ensures.by_index _ _ c.count-m.ensures c.search-found.ensures) c.if-found-m.false

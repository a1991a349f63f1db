-- What remains to be followed of a tree whose rows are written one after another, and what is followed.
use Rattle.std.specs.Prelude.{List, ◌≡◌, ℕ, ◌+◌, ◌*◌, ◌-◌, ◌<◌, ◌≤◌, length}
use Rattle.std.proofs.lemmas.List.Edits.{sets}
use Rattle.fan.specs.Sight.{Sight, numbers, row_count, crossings, Whole}

-- Of the tree t, whose rows go to the table `old` from `at` on, k rows are written, of the passages that were left n are left, and the table is `new`: u
-- remains, its rows from p on.
pub record Remains (old : List ℕ) (at left : ℕ) (t : Sight) (new : List ℕ) (p k n : ℕ) (u : Sight) : Type 0 where
  pub whole : Whole u
  pub same_length : length new ≡ length old
  pub from : p ≡ at + 4 * k
  pub rows : row_count t ≡ k + row_count u
  pub passages : crossings t + n ≡ left + crossings u
  pub same : sets new p (numbers u) ≡ sets old at (numbers t)

-- The tree t was followed with so many passages left: each crossing takes one of them, and following ends where none is left (document 02, A13). Where some
-- are, the table `new` is the table `old` with the rows of the tree from `at` on, and they are k.
pub record Follows (old : List ℕ) (at left : ℕ) (t : Sight) (new : List ℕ) (k n : ℕ) : Type 0 where
  pub passages : n ≡ left - crossings t
  pub no_more : k ≤ row_count t
  pub rows : 0 < n → k ≡ row_count t
  pub same : 0 < n → new ≡ sets old at (numbers t)

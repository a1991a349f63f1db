-- The part of a call's table of first faces that it lends, as long as the count of cells says.
use mathlib.Core.List.{List}
use mathlib.Core.Path.{◌≡◌}
use Prim.Native.Nat.{ℕ, suc, ◌+◌, ◌≤◌}
use native.Mathlib.Omega.{arith}
use lib.ListN.{length, take}
use lib.IntN.{ℤ}
use Rattle.limits.specs.Limits.{most_cells}
use Rattle.cells.specs.Lists.{cell_count}
use Rattle.cells.specs.Cut.{cells_of}
use Rattle.checking.specs.Sizes.{Fit}
use Rattle.checking.proofs.Rooms.{lent}
use Rattle.checking.proofs.Measures.{cells_fit}

module _ {k : ℕ} {cs : List ℤ} {ts ds : List ℕ} {m n : ℕ} (fit : Fit k cs ts ds m n) (xs : List ℕ) where
  pub firsts_part : 1 + most_cells ≤ length xs → length (take (m + 1) xs) ≡ suc (cell_count (cells_of k ts))
  firsts_part h = omega (arith, fit.cells, lent xs (m + 1) (omega (arith, cells_fit fit)))

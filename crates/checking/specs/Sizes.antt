-- The counts of cells and faces of three lists, the cells of kind k, or why they are not counted: what says how much room their tables need.
use Rattle.std.specs.Prelude.{true, false, List, ◌≡◌, ℕ, length, ℤ, Err, Ok, Result}
use Rattle.limits.specs.Limits.{sized}
use Rattle.limits.specs.declared.Refusal.TheVariants.{Frame, Size}
use Rattle.cells.specs.Lists.{corner_count, cell_count, face_count}
use Rattle.cells.specs.Cut.{cells_of}
use Rattle.cells.specs.Check.{framed}
use Rattle.limits.specs.declared.Refusal.{Refusal}
use Rattle.draw.specs.declared.Sizes.{Sizes}

unfoldable pub sizes_of : ℕ → List ℤ → List ℕ → List ℕ → Result Sizes Refusal
sizes_of k cs ts ds =
    elim (framed k cs ts) [
      | true ↦
          elim (sized (corner_count cs) (cell_count (cells_of k ts)) (length ds)) [
            | true ↦ Ok (record { cells = cell_count (cells_of k ts); faces = face_count (cells_of k ts) })
            | false ↦ Err Size
          ]
      | false ↦ Err Frame
    ]

-- the lists are framed, their counts are within the limits, and these are the counts of cells and faces
pub record Fit (k : ℕ) (cs : List ℤ) (ts ds : List ℕ) (m n : ℕ) : Type 0 where
  pub in_frame : framed k cs ts ≡ true
  pub in_size : sized (corner_count cs) (cell_count (cells_of k ts)) (length ds) ≡ true
  pub cells : m ≡ cell_count (cells_of k ts)
  pub faces : n ≡ face_count (cells_of k ts)

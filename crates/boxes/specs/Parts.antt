-- Lists of cells, and the part of one that reaches to one side of a line parallel to an axis.
use Rattle.std.specs.Prelude.{Bool, true, false, List, ◌≡◌, ℕ, ◌<◌, ◌≤◌, length, get_or, ℤ, pos, ◌*ℤ◌}
use Rattle.std.specs.Int.Signed.{lt_z}
use Rattle.boxes.specs.Boxes.{box_at}
use Rattle.boxes.specs.declared.Bounds.{Bounds}
use Rattle.boxes.specs.declared.part.Line.{Line}

-- a box reaches to the asked side of the line
unfoldable pub reaching : Bounds → Line → Bool
reaching b l =
    elim l.upright [
      | true ↦ elim l.beyond [ true ↦ lt_z l.twice (pos 2 *ℤ b.right) | false ↦ lt_z (pos 2 *ℤ b.left) l.twice ]
      | false ↦ elim l.beyond [ true ↦ lt_z l.twice (pos 2 *ℤ b.high) | false ↦ lt_z (pos 2 *ℤ b.low) l.twice ]
    ]

-- every number of the list is one of n cells
pub record Listed (n : ℕ) (xs : List ℕ) : Type 0 where
  pub exists : (i : ℕ) → i < length xs → get_or xs i 0 < n

-- a number of the first n of a list
pub record Among (xs : List ℕ) (n c : ℕ) : Type 0 where
  pub place : ℕ
  pub before : place < n
  pub stands : get_or xs place 0 ≡ c

-- the first k numbers of ps are among the first n of xs, and each of these whose box reaches to the side is among those
pub record Picked (bs : List ℤ) (l : Line) (xs : List ℕ) (n : ℕ) (ps : List ℕ) (k : ℕ) : Type 0 where
  pub at_most : k ≤ n
  pub of_the_list : (j : ℕ) → j < k → Among xs n (get_or ps j 0)
  pub each : (i : ℕ) → i < n → reaching (box_at bs (get_or xs i 0)) l ≡ true → Among ps k (get_or xs i 0)

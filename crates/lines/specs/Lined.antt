-- The table of a plan's lines under its setting: four numbers a face.
use Rattle.std.specs.Prelude.{true, false, List, ◌≡◌, ℕ, ◌+◌, ◌*◌, ◌-◌, ◌<◌, length, get_or, set, ℤ}
use Rattle.limits.specs.Limits.{wall}
use Rattle.cells.specs.Lists.{Cells, face_count, side_count, home, next, start, back}
use Rattle.cells.specs.Sound.{Sound}
use Rattle.setting.specs.Setting.{ends}

-- the cells and doors of an accepted plan, whatever its corners
pub record SoundCells (T : Cells) (ds : List ℕ) : Type 0 where
  pub corners : List ℤ
  pub sound : Sound corners T ds

-- the face on the other side of face f, or wall where sight ends
unfoldable pub across : Cells → List ℕ → ℕ → ℕ → ℕ
across T ds w f = elim (ends T ds w f) [ true ↦ wall | false ↦ back T f ]

-- the first n faces are drawn: of each the corner at which it ends, what is across it, how many sides of its cell follow the next one before it comes
-- round again, and the next side
pub record Drawn (T : Cells) (what_is_across : ℕ → ℕ) (n : ℕ) (ls : List ℕ) : Type 0 where
  pub whole : length ls ≡ 4 * face_count T
  pub end_stands : (f : ℕ) → f < n → get_or ls (4 * f) 0 ≡ start T (next T f)
  pub across_stands : (f : ℕ) → f < n → get_or ls (4 * f + 1) 0 ≡ what_is_across f
  pub more_stands : (f : ℕ) → f < n → get_or ls (4 * f + 2) 0 ≡ side_count T (home T f) - 2
  pub next_stands : (f : ℕ) → f < n → get_or ls (4 * f + 3) 0 ≡ next T f

-- the lines of cells and doors under a setting
abbrev pub Lined : Cells → List ℕ → ℕ → List ℕ → Type 0
Lined T ds w ls = Drawn T (across T ds w) (face_count T) ls

-- the lines with face f drawn
unfoldable pub with_face : List ℕ → ℕ → ℕ → ℕ → ℕ → ℕ → List ℕ
with_face ls f a b c d = set (set (set (set ls (4 * f) a) (4 * f + 1) b) (4 * f + 2) c) (4 * f + 3) d

-- the lines with wall across face f and across the face on its other side
unfoldable pub shut_line : Cells → ℕ → List ℕ → List ℕ
shut_line T f ls = set (set ls (4 * f + 1) wall) (4 * back T f + 1) wall

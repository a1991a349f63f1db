-- The walk (document 01, "Walk"; document 02, A4 and A5). It knows nothing of cones.
use Rattle.std.specs.Prelude.{true, false, ◌≡◌, ℕ, suc, pos, ◌<ℤ◌}
use Rattle.plane.specs.Side.{Point}
use Rattle.plane.specs.Cone.{cross, Holds}
use Rattle.fan.specs.Sight.{Floor, Row, Standing}
use Rattle.fan.specs.Sight.Standing.{inside, within}

-- e is side f or one of the m sides after it
pub data Among (F : Floor) : ℕ → ℕ → ℕ → Type 0 where
  this : {m f : ℕ} → Among F m f f
  after : {m f e : ℕ} → Among F m (F.next f) e → Among F (suc m) f e

-- e is a side of g's cell, and not g itself
abbrev pub Other : Floor → ℕ → ℕ → Type 0
Other F g e = Among F (F.more g) (F.next g) e

-- `see c` is corner c less the stand
module _ (F : Floor) (see : ℕ → Point) (d : Point) where
  -- a cell is left by the line whose right end a and left end b have (a−q)×d > 0 and d×(b−q) > 0
  abbrev pub Leaves : ℕ → Type 0
  Leaves f = Holds (see (F.right_end f)) (see (F.left_end f)) d

  -- the walk that leaves a cell by face f ends at face w
  pub data Walks : ℕ → ℕ → Type 0 where
    -- that line is wall or out of reach
    ended : {f : ℕ} → F.ends f ≡ true → Walks f f
    -- it is crossed, and the next cell is left by a line that is not the one it was entered by
    crossed : {f e w : ℕ} → F.ends f ≡ false → Other F (F.back f) e → Leaves e → Walks e w → Walks f w

  -- a row holds d when (r−q)×d > 0 and d×(l−q) > 0
  abbrev pub RowHolds : Row → Type 0
  RowHolds w = Holds (see w.right) (see w.left) d

  -- d points into the cell of face g, within whose side the stand is: it lies left of the ray to g's left end
  abbrev pub Enters : ℕ → Type 0
  Enters g = pos 0 <ℤ cross (see (F.left_end g)) d

  -- the walk begins in the cell that has face e as a side by which it may be left
  pub data Begins : Standing → ℕ → Type 0 where
    -- in the stand's cell
    in_the_cell : {f e : ℕ} → Among F (suc (F.more f)) f e → Begins (inside f) e
    -- in whichever of the two cells d enters
    in_its_cell : {s e : ℕ} → Enters s → Other F s e → Begins (within s) e
    in_the_neighbour : {s e : ℕ} → Enters (F.back s) → Other F (F.back s) e → Begins (within s) e

  -- the walk from the stand leaves its first cell by one of its sides and ends at face w
  pub record WalkEnds (p : Standing) (w : ℕ) : Type 0 where
    pub side : ℕ
    pub begins : Begins p side
    pub leaves : Leaves side
    pub walks : Walks side w

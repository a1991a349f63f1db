-- The floor that the tables of the code describe, within a range of R millimetres, which 0 leaves unlimited. Corners are two numbers each: x and y, less the
-- stand's. Faces are four numbers each: the corner at which the face ends; the face on its other side, or wall; how many sides of its cell follow the next one
-- before it comes round again; and the next side of its cell. In the table of faces the first of two numbers is the corner at which the face starts.
use Rattle.std.specs.Prelude.{true, false, ◌||◌, List, ◌≡◌, ℕ, ◌+◌, ◌*◌, ◌/◌, ◌<◌, ◌≤◌, eqb, length, get_or, ℤ, pos}
use Rattle.std.specs.Int.Signed.{le_z}
use Rattle.exact.specs.Within.{Within}
use Rattle.plane.specs.Side.{Point}
use Rattle.plane.specs.Cone.{cross}
use Rattle.limits.specs.Limits.{most_cells, most_sides, wall}
use Rattle.reach.specs.Reach.{most_apart, out_of_reach, far as Reach·far}
use Rattle.fan.specs.Sight.{Floor, Place}
use Rattle.fan.specs.Sight.Place.{between, right_of_r, left_of_l}

-- corner i, seen from the stand
abbrev pub seen_at : List ℤ → ℕ → Point
seen_at zs i = record { x = get_or zs (2 * i) (pos 0); y = get_or zs (2 * i + 1) (pos 0) }

-- v on or right of the ray to r, on or left of the ray to l, or strictly between
unfoldable pub placed : List ℤ → ℕ → ℕ → ℕ → Place
placed zs v r l =
    elim (le_z (cross (seen_at zs r) (seen_at zs v)) (pos 0)) [
      | true ↦ right_of_r
      | false ↦ elim (le_z (cross (seen_at zs v) (seen_at zs l)) (pos 0)) [ true ↦ left_of_l | false ↦ between ]
    ]

abbrev pub floor_of : List ℤ → List ℕ → List ℕ → ℕ → Floor
floor_of zs ls fs R =
    record {
      ends = λ f. eqb (get_or ls (4 * f + 1) 0) wall || out_of_reach R (seen_at zs (get_or fs (2 * f) 0)) (seen_at zs (get_or ls (4 * f) 0));
      far = λ f. Reach·far R (seen_at zs (get_or fs (2 * f) 0)) (seen_at zs (get_or ls (4 * f) 0));
      back = λ f. get_or ls (4 * f + 1) 0;
      next = λ f. get_or ls (4 * f + 3) 0;
      more = λ f. get_or ls (4 * f + 2) 0;
      right_end = λ f. get_or fs (2 * f) 0;
      left_end = λ f. get_or ls (4 * f) 0;
      place = placed zs;
    }

-- every corner within the coordinate limits, seen from a stand within them
pub record Near (zs : List ℤ) : Type 0 where
  pub near : (i : ℕ) → i < length zs → Within most_apart (get_or zs i (pos 0))

-- the tables of an accepted plan: corners that exist, and across each face wall or another face
pub record Lines (zs : List ℤ) (ls : List ℕ) : Type 0 where
  pub few_faces : length ls ≤ 4 * (most_sides * most_cells)
  pub corners : Near zs
  pub end_exists : (f : ℕ) → 4 * f + 3 < length ls → get_or ls (4 * f) 0 < length zs / 2
  pub across_exists : (f : ℕ) → 4 * f + 3 < length ls → (get_or ls (4 * f + 1) 0 ≡ wall → ⊥) → 4 * get_or ls (4 * f + 1) 0 + 3 < length ls
  pub few_more : (f : ℕ) → 4 * f + 3 < length ls → get_or ls (4 * f + 2) 0 < most_sides
  pub next_exists : (f : ℕ) → 4 * f + 3 < length ls → 4 * get_or ls (4 * f + 3) 0 + 3 < length ls

-- the corner at which a face of the table of lines starts stands in the table of faces, and exists
pub record Starts (zs : List ℤ) (ls fs : List ℕ) : Type 0 where
  pub stands : (f : ℕ) → 4 * f + 3 < length ls → 2 * f < length fs
  pub exists : (f : ℕ) → 4 * f + 3 < length ls → get_or fs (2 * f) 0 < length zs / 2

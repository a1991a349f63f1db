-- Finding where the stand is (document 01, "The stand" and "Reply numbers"; document 02, A4 and A14).
use Rattle.std.specs.Prelude.{Bool, true, false, not, ◌&&◌, List, ℕ, ◌-◌, ltb, length, ℤ, pos, Err, None, Ok, Option, Result, Some}
use Rattle.std.specs.Int.Signed.{lt_z}
use Rattle.plane.specs.Side.{Point, side}
use Rattle.plane.specs.Tests.{chosen, is_within}
use Rattle.plane.specs.declared.Containment.{Containment}
use Rattle.plane.specs.declared.Containment.TheVariants.{Inside, Border, Outside}
use Rattle.cells.specs.Least.{least}
use Rattle.cells.specs.Lists.{Cells, corner_at, cell_count, face_count, first, home, next, start}
use Rattle.cells.specs.Cut.{cells_of}
use Rattle.cells.specs.Check.{some_face, checked}
use Rattle.setting.specs.Setting.{ends, wrong_setting}
use Rattle.limits.specs.declared.Refusal.TheVariants as R
use Rattle.stand.specs.Spot.{stood}
use Rattle.stand.specs.declared.spot.Stand.{Stand}
use Rattle.stand.specs.declared.locate.Footing.{Footing}
use Rattle.stand.specs.declared.locate.Footing.TheVariants.{Inside as InCell, Side}
use Rattle.limits.specs.declared.Plan.{Plan}
use Rattle.limits.specs.declared.Refusal.{Refusal}

-- the side value of face f's two ends and q
abbrev pub side_value_at : List ℤ → Cells → Point → ℕ → ℤ
side_value_at cs T q f = side (corner_at cs (start T f)) (corner_at cs (start T (next T f))) q

-- q is not strictly left of side f; it is right of it
unfoldable pub not_left_of : List ℤ → Cells → Point → ℕ → Bool
not_left_of cs T q f = not (lt_z (pos 0) (side_value_at cs T q f))

unfoldable pub right_of : List ℤ → Cells → Point → ℕ → Bool
right_of cs T q f = lt_z (side_value_at cs T q f) (pos 0)

-- where q lies against cell c
unfoldable pub against : List ℤ → Cells → Point → ℕ → Containment
against cs T q c = chosen (not (some_face T c (not_left_of cs T q))) (not (some_face T c (right_of cs T q)))

abbrev pub is_inside : Containment → Bool
is_inside Inside = true
is_inside Border = false
is_inside Outside = false

abbrev pub is_border : Containment → Bool
is_border Inside = false
is_border Border = true
is_border Outside = false

-- q is strictly within side f; it is so, and sight passes the side under setting w: the side is free
unfoldable pub strictly_within : List ℤ → Cells → Point → ℕ → Bool
strictly_within cs T q f = is_within (corner_at cs (start T f)) (corner_at cs (start T (next T f))) q

unfoldable pub within_free : List ℤ → Cells → List ℕ → ℕ → Point → ℕ → Bool
within_free cs T ds w q f = strictly_within cs T q f && not (ends T ds w f)

-- the least cell that holds q strictly inside, and the least that has it on its border, or the count
abbrev pub first_inside : List ℤ → Cells → Point → ℕ
first_inside cs T q = least (λ c. is_inside (against cs T q c)) (cell_count T) 0

abbrev pub first_border : List ℤ → Cells → Point → ℕ
first_border cs T q = least (λ c. is_border (against cs T q c)) (cell_count T) 0

-- the least free side that q is strictly within, or the count; faces are numbered cell by cell, so it is the least side of the least cell
abbrev pub first_within : List ℤ → Cells → List ℕ → ℕ → Point → ℕ
first_within cs T ds w q = least (within_free cs T ds w q) (face_count T) 0

-- side f: its cell, and its number in it
abbrev pub side_at : Cells → ℕ → Footing
side_at T f = Side (home T f) (f - first T (home T f))

-- by whether some cell holds the stand strictly, whether a free side has it strictly within, and whether some cell has it on its border
abbrev pub by_places : Bool → Bool → Bool → ℕ → Footing → Result Footing Refusal
by_places true s b c p = Ok (InCell c)
by_places false true b c p = Ok p
by_places false false true c p = Err R.Line
by_places false false false c p = Err R.Outside

unfoldable pub located : List ℤ → Cells → List ℕ → ℕ → Point → Result Footing Refusal
located cs T ds w q =
    by_places (ltb (first_inside cs T q) (cell_count T)) (ltb (first_within cs T ds w q) (face_count T)) (ltb (first_border cs T q) (cell_count T))
    (first_inside cs T q) (side_at T (first_within cs T ds w q))

abbrev pub with_spot : List ℤ → Cells → List ℕ → ℕ → Option (ℤ × ℤ) → Result Footing Refusal
with_spot cs T ds w (Some (x, y)) = located cs T ds w (record { x = x; y = y })
with_spot cs T ds w None = Err R.Stand

-- refused where the setting is wrong
abbrev pub with_setting : Bool → Result Footing Refusal → Result Footing Refusal
with_setting true f = Err R.Setting
with_setting false f = f

abbrev pub with_plan : List ℤ → Cells → List ℕ → ℕ → Stand → Result Plan Refusal → Result Footing Refusal
with_plan cs T ds w s (Ok p) = with_setting (wrong_setting w (length ds)) (with_spot cs T ds w (stood cs s))
with_plan cs T ds w s (Err r) = Err r

-- on three lists, the cells in a list of kind k, under setting w
unfoldable pub found : ℕ → List ℤ → List ℕ → List ℕ → ℕ → Stand → Result Footing Refusal
found k cs ts ds w s = with_plan cs (cells_of k ts) ds w s (checked k cs ts ds)

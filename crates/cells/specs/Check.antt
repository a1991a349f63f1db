-- The plan check (document 01, "Side value and plan check"; document 02, A14 and A7): the lowest number that applies, at its least place.
use Rattle.std.specs.Prelude.{Bool, true, false, not, ◌&&◌, ◌||◌, List, ℕ, suc, ◌%◌, eqb, ltb, length, get_or, ℤ, pos, neg_ℤ, Err, Ok, Result}
use Rattle.std.specs.Int.Signed.{lt_z}
use Rattle.plane.specs.Side.{side}
use Rattle.limits.specs.Limits.{sized, wall, coordinate_limit}
use Rattle.cells.specs.Least.{least}
use Rattle.cells.specs.Lists.{Cells, corner_count, corner_at, cell_count, face_count, first, side_count, next, start, neighbour, back}
use Rattle.cells.specs.Cut.{cut, is_whole, cells_of}
use Rattle.limits.specs.declared.Refusal.{Refusal}
use Rattle.limits.specs.declared.Refusal.TheVariants.{Frame, Size, Corner, Cell, Neighbour, Door, Overlap}
use Rattle.limits.specs.declared.Plan.{Plan}

-- the corners are a multiple of 2, and the list of cells, of kind k, is cut into whole cells
unfoldable pub framed : ℕ → List ℤ → List ℕ → Bool
framed k cs ts = eqb (length cs % 2) 0 && is_whole (cut k ts)

-- a coordinate is outside the limits
unfoldable pub outside : ℤ → Bool
outside z = lt_z z (neg_ℤ (pos coordinate_limit)) || lt_z (pos coordinate_limit) z

unfoldable pub wrong_corner : List ℤ → ℕ → Bool
wrong_corner cs i = outside (corner_at cs i).x || outside (corner_at cs i).y

-- the test holds at some face of cell c
unfoldable pub some_face : Cells → ℕ → (ℕ → Bool) → Bool
some_face T c t = ltb (least t (side_count T c) (first T c)) (first T (suc c))

-- the corner at which face g starts is wrong for side f of the same cell: it is f's start again, or, where it is not one of f's own two, it is not
-- strictly left of f
unfoldable pub wrong_for_side : List ℤ → Cells → ℕ → ℕ → Bool
wrong_for_side cs T f g =
    not (eqb g f)
    && (eqb (start T g) (start T f)
    || (not (eqb g (next T f))
    && not (lt_z (pos 0) (side (corner_at cs (start T f)) (corner_at cs (start T (next T f))) (corner_at cs (start T g))))))

-- a corner number that does not exist, or a corner that is wrong for a side
unfoldable pub missing_corner : List ℤ → Cells → ℕ → Bool
missing_corner cs T f = not (ltb (start T f) (corner_count cs))

unfoldable pub wrong_side : List ℤ → Cells → ℕ → ℕ → Bool
wrong_side cs T c f = some_face T c (wrong_for_side cs T f)

unfoldable pub wrong_cell : List ℤ → Cells → ℕ → Bool
wrong_cell cs T c = some_face T c (missing_corner cs T) || some_face T c (wrong_side cs T c)

-- a neighbour is right when it is wall, or names an existing cell that has a side which answers
unfoldable pub wrong_neighbour : Cells → ℕ → Bool
wrong_neighbour T f =
    not (eqb (neighbour T f) wall || (ltb (neighbour T f) (cell_count T) && ltb (back T f) (first T (suc (neighbour T f)))))

-- door e names face f or face g
unfoldable pub names : List ℕ → ℕ → ℕ → ℕ → Bool
names ds f g e = eqb (get_or ds e 0) f || eqb (get_or ds e 0) g

-- a door is right when its face exists, is not wall, and no earlier door names the same line from either face
unfoldable pub wrong_door : Cells → List ℕ → ℕ → Bool
wrong_door T ds i =
    not (ltb (get_or ds i 0) (face_count T)
    && not (eqb (neighbour T (get_or ds i 0)) wall)
    && eqb (least (names ds (get_or ds i 0) (back T (get_or ds i 0))) i 0) i)

-- the corner at which face g starts is strictly left of face f
unfoldable pub strictly_left : List ℤ → Cells → ℕ → ℕ → Bool
strictly_left cs T f g =
    lt_z (pos 0) (side (corner_at cs (start T f)) (corner_at cs (start T (next T f))) (corner_at cs (start T g)))

-- face f has every corner of cell e on its line or right of it
unfoldable pub separates : List ℤ → Cells → ℕ → ℕ → Bool
separates cs T e f = not (some_face T e (strictly_left cs T f))

-- two cells overlap when no side of either separates them: exactly if some point lies strictly inside both (`Overlap`; A7)
unfoldable pub overlapping : List ℤ → Cells → ℕ → ℕ → Bool
overlapping cs T c e = not (eqb c e) && not (some_face T c (separates cs T e)) && not (some_face T e (separates cs T c))

-- cell c is in some overlapping pair
unfoldable pub in_a_pair : List ℤ → Cells → ℕ → Bool
in_a_pair cs T c = ltb (least (overlapping cs T c) (cell_count T) 0) (cell_count T)

-- the least wrong corner, cell, face and door, and the least cell of any overlapping pair, or the count where none is wrong
abbrev pub first_wrong_corner : List ℤ → ℕ
first_wrong_corner cs = least (wrong_corner cs) (corner_count cs) 0

abbrev pub first_wrong_cell : List ℤ → Cells → ℕ
first_wrong_cell cs T = least (wrong_cell cs T) (cell_count T) 0

abbrev pub first_wrong_face : Cells → ℕ
first_wrong_face T = least (wrong_neighbour T) (face_count T) 0

abbrev pub first_wrong_door : Cells → List ℕ → ℕ
first_wrong_door T ds = least (wrong_door T ds) (length ds) 0

abbrev pub first_overlapping : List ℤ → Cells → ℕ
first_overlapping cs T = least (in_a_pair cs T) (cell_count T) 0

-- refused where the test holds; else what follows is asked
abbrev pub refuse_if : Bool → Refusal → Result Plan Refusal → Result Plan Refusal
refuse_if true r rest = Err r
refuse_if false r rest = rest

-- the check of corners, whole cells and doors: from SIZE on
unfoldable pub checked_cells : List ℤ → Cells → List ℕ → Result Plan Refusal
checked_cells cs T ds =
    refuse_if (not (sized (corner_count cs) (cell_count T) (length ds))) Size
    (refuse_if (ltb (first_wrong_corner cs) (corner_count cs)) (Corner (first_wrong_corner cs))
    (refuse_if (ltb (first_wrong_cell cs T) (cell_count T)) (Cell (first_wrong_cell cs T))
    (refuse_if (ltb (first_wrong_face T) (face_count T)) (Neighbour (first_wrong_face T))
    (refuse_if (ltb (first_wrong_door T ds) (length ds)) (Door (first_wrong_door T ds))
    (refuse_if (ltb (first_overlapping cs T) (cell_count T)) (Overlap (first_overlapping cs T))
    (Ok (record { corners = corner_count cs; cells = cell_count T; doors = length ds })))))))

-- the check of three lists, the cells in a list of kind k
unfoldable pub checked : ℕ → List ℤ → List ℕ → List ℕ → Result Plan Refusal
checked k cs ts ds = refuse_if (not (framed k cs ts)) Frame (checked_cells cs (cells_of k ts) ds)

-- The expansion over an abstract floor (document 01, "Expansion"; document 02, A4, A5 and A14): a tree of rows, passages and splits. Faces and corners are numbers.
use Rattle.std.specs.Prelude.{Bool, true, false, List, [], ◌∷◌, ◌++◌, ℕ, zero, suc, ◌+◌, ◌-◌}

-- where a corner v lies between the limits r and l
pub data Place : Type 0 where
  between : Place
  right_of_r : Place
  left_of_l : Place

pub record Floor : Type 0 where
  -- sight ends at this face: it is wall or out of reach
  pub ends : ℕ → Bool
  -- whether this face is in reach: 0 where it is, 1 where it is not
  pub far : ℕ → ℕ
  -- the neighbour's side through which a free face is crossed
  pub back : ℕ → ℕ
  -- the next side of the same cell, counter-clockwise
  pub next : ℕ → ℕ
  -- how many sides of its cell follow the next one before this one comes round again: the corners less two
  pub more : ℕ → ℕ
  -- a face runs from its right end to its left end, seen from its own cell
  pub right_end : ℕ → ℕ
  pub left_end : ℕ → ℕ
  -- where v lies between r and l
  pub place : ℕ → ℕ → ℕ → Place

pub data Sight : Type 0 where
  -- a face at which sight ends gives a row: face, right limit, left limit, and 0 in reach or 1 out of reach
  row : ℕ → ℕ → ℕ → ℕ → Sight
  -- a free line is crossed: face, right limit, left limit, and what is seen beyond
  pass : ℕ → ℕ → ℕ → Sight → Sight
  -- two parts handed on, the right one first
  both : Sight → Sight → Sight
  -- a crossing too many
  cut : Sight

-- side e of an entered cell and the m sides after it, counter-clockwise, each with the part of the cone that is not empty; `on` follows a line.
-- At e's left end v: v on or right of the ray to r, e is skipped; v on or left of the ray to l, e takes r and l and the fan ends; v strictly
-- between, e takes r and v, and the sides after it v and l. The last side takes what is left.
unfoldable pub fan : Floor → (ℕ → ℕ → ℕ → Sight) → ℕ → ℕ → ℕ → ℕ → Sight
fan F on zero e r l = on e r l
fan F on (suc m) e r l =
    elim (F.place (F.left_end e) r l) [
      | between ↦ both (on e r (F.left_end e)) (fan F on m (F.next e) (F.left_end e) l)
      | right_of_r ↦ fan F on m (F.next e) r l
      | left_of_l ↦ on e r l
    ]

-- the line of face f with limits r and l, followed to its rows through at most n crossings
unfoldable pub follow : Floor → ℕ → ℕ → ℕ → ℕ → Sight
follow F zero f r l = elim (F.ends f) [ true ↦ row f r l (F.far f) | false ↦ cut ]
follow F (suc n) f r l =
    elim (F.ends f) [ true ↦ row f r l (F.far f) | false ↦ pass f r l (fan F (follow F n) (F.more (F.back f)) (F.next (F.back f)) r l) ]

-- the sides that a cell entered through its face g hands on, as `follow` has them
unfoldable pub hand_on : Floor → ℕ → ℕ → ℕ → ℕ → Sight
hand_on F n g r l = fan F (follow F n) (F.more g) (F.next g) r l

-- ---- the start

-- side e and the m sides after it, counter-clockwise; `next` is the next side of the same cell
unfoldable pub sides : (ℕ → ℕ) → ℕ → ℕ → List ℕ
sides next zero e = e ∷ []
sides next (suc m) e = e ∷ sides next m (next e)

-- the sides of the cell whose first side is f, in their order
abbrev pub all_sides : Floor → ℕ → List ℕ
all_sides F f = sides F.next (suc (F.more f)) f

-- the other sides of g's cell, in order after g
abbrev pub other_sides : Floor → ℕ → List ℕ
other_sides F g = sides F.next (F.more g) (F.next g)

-- where the stand is
pub data Standing : Type 0 where
  -- strictly inside the cell whose first side is this face
  inside : ℕ → Standing
  -- strictly within this face's side, which is free
  within : ℕ → Standing

-- the lines around the stand, in order: its cell's sides; or its cell's other sides and then the neighbour's
unfoldable pub lines_around : Floor → Standing → List ℕ
lines_around F (inside f) = all_sides F f
lines_around F (within s) = other_sides F s ++ other_sides F (F.back s)

-- how many of M cells are not yet entered
unfoldable pub unentered : ℕ → Standing → ℕ
unentered M (inside f) = M - 1
unentered M (within s) = M - 2

-- lines one behind the other, each followed with its own two ends as limits
unfoldable pub lines_seen : Floor → ℕ → List ℕ → Sight
lines_seen F n [] = cut
lines_seen F n (e ∷ []) = follow F n e (F.right_end e) (F.left_end e)
lines_seen F n (e ∷ x ∷ es) = both (follow F n e (F.right_end e) (F.left_end e)) (lines_seen F n (x ∷ es))

-- what is seen from the stand, of M cells
unfoldable pub seen_from : Floor → ℕ → Standing → Sight
seen_from F M p = lines_seen F (unentered M p) (lines_around F p)

-- the rows' numbers, four a row, in order
unfoldable pub numbers : Sight → List ℕ
numbers (row f r l k) = f ∷ r ∷ l ∷ k ∷ []
numbers (pass f r l t) = numbers t
numbers (both t u) = numbers t ++ numbers u
numbers cut = []

unfoldable pub row_count : Sight → ℕ
row_count (row f r l k) = 1
row_count (pass f r l t) = row_count t
row_count (both t u) = row_count t + row_count u
row_count cut = 0

-- the number of times a free line is passed, each passage by each cone counted
unfoldable pub crossings : Sight → ℕ
crossings (row f r l k) = 0
crossings (pass f r l t) = crossings t + 1
crossings (both t u) = crossings t + crossings u
crossings cut = 0

-- no crossing was too many
pub data Whole : Sight → Type 0 where
  whole_row : {f r l k : ℕ} → Whole (row f r l k)
  whole_pass : {f r l : ℕ} {t : Sight} → Whole t → Whole (pass f r l t)
  whole_both : {t u : Sight} → Whole t → Whole u → Whole (both t u)

-- a row: face on the side seen, right limit, left limit, and 0 in reach or 1 out of reach
pub record Row : Type 0 where
  pub face : ℕ
  pub right : ℕ
  pub left : ℕ
  pub far : ℕ

unfoldable pub rows : Sight → List Row
rows (row f r l k) = record { face = f; right = r; left = l; far = k } ∷ []
rows (pass f r l t) = rows t
rows (both t u) = rows t ++ rows u
rows cut = []

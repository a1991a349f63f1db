-- Laws of the tables of cells: how long they are, how they grow by a cell behind the others, and that faces are numbered in them in file order.
use mathlib.Core.Bool.{true}
use mathlib.Core.List.{List, [], ◌∷◌, ◌++◌, append_assoc, append-nil}
use mathlib.Core.Path.{◌≡◌, refl, sym, ap, ◌∙◌}
use Prim.Native.Nat.{ℕ, zero, suc, ◌+◌, ◌*◌, ◌-◌, ◌<◌, ◌≤◌}
use native.Mathlib.Omega.{arith}
use lib.ListN.{length, get_or, length-append}
use Rattle.limits.specs.Limits.{least_sides, most_sides, triangles, polygons}
use Rattle.cells.specs.Lists.{cell_count, face_count}
use Rattle.cells.specs.Cut.{Cell, Cut, whole, broken, cut, is_whole, cells_in, pairs, faces_of, firsts_from, tables, cells_of, as_polygons, as_triangles}
use Rattle.cells.specs.Sound.{Numbered}
use Rattle.cells.proofs.Least.{not_both}
use Rattle.cells.proofs.Cuts.{Every, none, more, Polygon, Triangle, triangles_are_polygons, every_cell, every_polygon, every_triangle, as_polygons_of_cut, as_triangles_of_cut}

-- how many sides cells have together
unfoldable pub sides_in : List Cell → ℕ
sides_in [] = 0
sides_in (c ∷ cs) = length c.corners + sides_in cs

-- ---- how long the tables are

pub length_pairs : (xs ns : List ℕ) → length ns ≡ length xs → length (pairs xs ns) ≡ 2 * length xs
unfolding pairs
length_pairs [] ns e = refl
length_pairs (x ∷ xs) [] e = absurd (omega arith)
length_pairs (x ∷ xs) (n ∷ ns) e = omega (arith, length_pairs xs ns (omega arith))

pub length_faces_of : {cs : List Cell} → Every Polygon cs → length (faces_of cs) ≡ 2 * sides_in cs
unfolding faces_of sides_in
length_faces_of none = refl
length_faces_of (more {c} {cs} s h) =
    omega (arith, length-append (pairs c.corners c.neighbours) (faces_of cs), length_pairs c.corners c.neighbours s.as_many, length_faces_of h)

pub length_firsts_from : (f : ℕ) (cs : List Cell) → length (firsts_from f cs) ≡ suc (length cs)
unfolding firsts_from
length_firsts_from f [] = refl
length_firsts_from f (c ∷ cs) = ap suc (length_firsts_from (f + length c.corners) cs)

pub cell_count_of : (cs : List Cell) → cell_count (tables cs) ≡ length cs
unfolding tables
cell_count_of cs = omega (arith, length_firsts_from 0 cs)

pub face_count_of : {cs : List Cell} → Every Polygon cs → face_count (tables cs) ≡ sides_in cs
unfolding tables
face_count_of h = omega (arith, length_faces_of h)

-- ---- one cell behind the others

module _ (c : Cell) where
  pub faces_with_one_more : (cs : List Cell) → faces_of (cs ++ (c ∷ [])) ≡ faces_of cs ++ pairs c.corners c.neighbours
  unfolding faces_of
  faces_with_one_more [] = append-nil (pairs c.corners c.neighbours)
  faces_with_one_more (d ∷ cs) =
      ap (λ (l : List ℕ). pairs d.corners d.neighbours ++ l) (faces_with_one_more cs)
      ∙ sym (append_assoc (pairs d.corners d.neighbours) (faces_of cs) (pairs c.corners c.neighbours))

  pub firsts_with_one_more : (f : ℕ) (cs : List Cell) → firsts_from f (cs ++ (c ∷ [])) ≡ firsts_from f cs ++ ((f + sides_in cs + length c.corners) ∷ [])
  unfolding firsts_from sides_in
  firsts_with_one_more f [] =
      let same : f + length c.corners ≡ f + 0 + length c.corners = omega arith in
      ap (λ (n : ℕ). f ∷ n ∷ []) same
  firsts_with_one_more f (d ∷ cs) =
      let same : f + length d.corners + sides_in cs + length c.corners ≡ f + (length d.corners + sides_in cs) + length c.corners = omega arith in
      ap (λ (l : List ℕ). f ∷ l) (firsts_with_one_more (f + length d.corners) cs ∙ ap (λ (n : ℕ). firsts_from (f + length d.corners) cs ++ (n ∷ [])) same)

  pub every_with_one_more : {P : Cell → Type 0} {cs : List Cell} → Every P cs → P c → Every P (cs ++ (c ∷ []))
  every_with_one_more none s = more s none
  every_with_one_more (more t h) s = more t (every_with_one_more h s)

pub sides_behind : (cs ds : List Cell) → sides_in (cs ++ ds) ≡ sides_in cs + sides_in ds
unfolding sides_in
sides_behind [] ds = omega arith
sides_behind (c ∷ cs) ds = omega (arith, sides_behind cs ds)

-- ---- faces are numbered in file order

begins_with : (f : ℕ) (cs : List Cell) → get_or (firsts_from f cs) 0 0 ≡ f
unfolding firsts_from
begins_with f [] = refl
begins_with f (c ∷ cs) = refl

ends_with : (f : ℕ) (cs : List Cell) → get_or (firsts_from f cs) (length cs) 0 ≡ f + sides_in cs
unfolding firsts_from sides_in
ends_with f [] = omega arith
ends_with f (c ∷ cs) = omega (arith, ends_with (f + length c.corners) cs)

-- from one first face to the next there are 3 to 8
steps : (f : ℕ) (cs : List Cell) → Every Polygon cs → (i : ℕ) → i < length cs → (get_or (firsts_from f cs) i 0 + least_sides ≤ get_or (firsts_from f cs) (suc i) 0) × (get_or (firsts_from f cs) (suc i) 0 ≤ get_or (firsts_from f cs) i 0 + most_sides)
unfolding firsts_from
steps f [] none i h = absurd (omega arith)
steps f (c ∷ cs) (more s e) zero h =
    let after = begins_with (f + length c.corners) cs in
    (omega (arith, s.at_least), omega (arith, s.at_most))
steps f (c ∷ cs) (more s e) (suc i) h = steps (f + length c.corners) cs e i (omega arith)

pub tables_numbered : (cs : List Cell) → Every Polygon cs → Numbered (tables cs)
unfolding tables
tables_numbered cs e =
    let count : length (firsts_from 0 cs) - 1 ≡ length cs = omega (arith, length_firsts_from 0 cs) in
    record {
      whole_faces = omega (arith, length_faces_of e);
      begins = begins_with 0 cs;
      at_least = λ i h. (steps 0 cs e i (omega arith)).0;
      at_most = λ i h. (steps 0 cs e i (omega arith)).1;
      ends = ap (λ (n : ℕ). get_or (firsts_from 0 cs) n 0) count ∙ omega (arith, ends_with 0 cs, length_faces_of e);
      firsts_stand = omega (arith, length_firsts_from 0 cs);
    }

-- where a list is not cut into whole cells, there are no cells
pub every_cell_in : (k : ℕ) (ts : List ℕ) → Every Polygon (cells_in (cut k ts))
every_cell_in k ts = by_cut (cut k ts) refl
  where
    by_cut : (r : Cut) → cut k ts ≡ r → Every Polygon (cells_in r)
    by_cut (whole cs) e = every_cell k ts cs e
    by_cut broken e = none

pub numbered : (k : ℕ) (ts : List ℕ) → Numbered (cells_of k ts)
unfolding cells_of
numbered k ts = tables_numbered (cells_in (cut k ts)) (every_cell_in k ts)

-- ---- how long a list is

length_as_polygons : {cs : List Cell} → Every Polygon cs → length (as_polygons cs) ≡ length cs + 2 * sides_in cs
unfolding as_polygons sides_in
length_as_polygons none = refl
length_as_polygons (more {c} {cs} s h) =
    omega (arith, s.as_many, length-append c.corners (c.neighbours ++ as_polygons cs), length-append c.neighbours (as_polygons cs), length_as_polygons h)

length_as_triangles : {cs : List Cell} → Every Triangle cs → length (as_triangles cs) ≡ 6 * length cs
unfolding as_triangles
length_as_triangles none = refl
length_as_triangles (more {c} {cs} s h) =
    omega (arith, s.at_least, s.at_most, s.as_many, length-append c.corners (c.neighbours ++ as_triangles cs), length-append c.neighbours (as_triangles cs), length_as_triangles h)

three_sides_each : {cs : List Cell} → Every Triangle cs → sides_in cs ≡ 3 * length cs
unfolding sides_in
three_sides_each none = refl
three_sides_each (more s h) = omega (arith, s.at_least, s.at_most, three_sides_each h)

module _ (ts : List ℕ) (cs : List Cell) where
  -- a number before each cell, and two for each face
  pub length_of_polygons : cut polygons ts ≡ whole cs → length ts ≡ cell_count (tables cs) + 2 * face_count (tables cs)
  length_of_polygons e =
      let h = every_polygon ts cs e in
      omega (arith, ap length (as_polygons_of_cut ts cs e), length_as_polygons h, cell_count_of cs, face_count_of h)

  pub length_of_triangles : cut triangles ts ≡ whole cs → (length ts ≡ 2 * face_count (tables cs)) × (length ts ≡ 6 * cell_count (tables cs))
  length_of_triangles e =
      let h = every_triangle ts cs e in
      let long : length ts ≡ 6 * length cs = ap length (sym (as_triangles_of_cut ts cs e)) ∙ length_as_triangles h in
      (omega (arith, three_sides_each h, face_count_of (triangles_are_polygons h)), omega (arith, cell_count_of cs))

pub count_of_triangles : (ts : List ℕ) → is_whole (cut triangles ts) ≡ true → (length ts ≡ 2 * face_count (cells_of triangles ts)) × (length ts ≡ 6 * cell_count (cells_of triangles ts))
unfolding cells_of
count_of_triangles ts w = by_cut (cut triangles ts) refl
  where
    by_cut : (r : Cut) → cut triangles ts ≡ r → (length ts ≡ 2 * face_count (tables (cells_in r))) × (length ts ≡ 6 * cell_count (tables (cells_in r)))
    by_cut (whole cs) e = length_of_triangles ts cs e
    by_cut broken e = absurd (not_both w (ap is_whole e))

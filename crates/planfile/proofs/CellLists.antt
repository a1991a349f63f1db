-- A list that is cut into whole cells: which kind it is of, how long it is, and its numbers, which are those of its faces and its corner counts.
use mathlib.Core.Bool.{true}
use mathlib.Core.List.{List, [], ◌∷◌, ◌++◌}
use mathlib.Core.Path.{◌≡◌, refl, sym, ap, subst, ◌∙◌}
use Prim.Native.Nat.{ℕ, zero, suc, ◌*◌, ◌^◌, ◌<◌, ◌≤◌}
use native.Mathlib.Decide.{ℕ_discrete}
use native.Mathlib.Omega.{arith}
use lib.ListN.{length, get_or}
use Rattle.limits.specs.Limits.{triangles, polygons}
use Rattle.cells.specs.Lists.{Cells, cell_count}
use Rattle.cells.specs.Cut.{Cell, Cut, whole, broken, cut, is_whole, pairs, faces_of, tables, cells_of, as_polygons, as_triangles}
use Rattle.cells.proofs.Least.{not_both}
use Rattle.cells.proofs.Cuts.{Every, none, more, Polygon, triangles_are_polygons, every_polygon, every_triangle, as_polygons_of_cut, as_triangles_of_cut, tables_of_cut, other_kind}
use Rattle.cells.proofs.Tables.{tables_numbered, length_of_polygons, length_of_triangles}
use Rattle.cells.proofs.Plans.{faces_at_most}
use Rattle.records.proofs.Frames.{OfKind}
use Rattle.records.proofs.Frames.OfKind.{triangles as triangles_record, polygons as polygons_record}
use Rattle.records.proofs.Back.{append_below}

-- ---- the cells, by their kind

pub data Whole (k : ℕ) (ts : List ℕ) : Type 0 where
  of_triangles : k ≡ triangles → (cs : List Cell) → cut triangles ts ≡ whole cs → Whole k ts
  of_polygons : k ≡ polygons → (cs : List Cell) → cut polygons ts ≡ whole cs → Whole k ts

pub by_kind : (k : ℕ) (ts : List ℕ) → is_whole (cut k ts) ≡ true → Whole k ts
by_kind k ts h = by_cut (cut k ts) refl h
  where
    of_a_kind : (cs : List Cell) → cut k ts ≡ whole cs → Dec (k ≡ triangles) → Dec (k ≡ polygons) → Whole k ts
    of_a_kind cs e (yes i) j = of_triangles i cs (ap (λ (l : ℕ). cut l ts) (sym i) ∙ e)
    of_a_kind cs e (no i) (yes j) = of_polygons j cs (ap (λ (l : ℕ). cut l ts) (sym j) ∙ e)
    of_a_kind cs e (no i) (no j) = absurd (not_both h (ap is_whole (other_kind k ts i j)))

    by_cut : (r : Cut) → cut k ts ≡ r → is_whole r ≡ true → Whole k ts
    by_cut (whole cs) e w = of_a_kind cs e (ℕ_discrete k triangles) (ℕ_discrete k polygons)
    by_cut broken e w = absurd (not_both w refl)

its_tables : {k j : ℕ} (ts : List ℕ) (cs : List Cell) → k ≡ j → cut j ts ≡ whole cs → cells_of k ts ≡ tables cs
its_tables {j = j} ts cs i e = ap (λ (l : ℕ). cells_of l ts) i ∙ tables_of_cut j ts e

module _ {k : ℕ} {ts : List ℕ} where
  -- ---- how long it is

  -- a cell has at most 8 corners, so that its count, corners and neighbours are at most 17 numbers
  pub few_numbers : Whole k ts → length ts ≤ 17 * cell_count (cells_of k ts)
  few_numbers (of_triangles i cs e) =
      omega (arith, (length_of_triangles ts cs e).1, ap (λ (T : Cells). cell_count T) (its_tables ts cs i e))
  few_numbers (of_polygons i cs e) =
      omega (arith, length_of_polygons ts cs e, faces_at_most (tables_numbered cs (every_polygon ts cs e)), ap (λ (T : Cells). cell_count T) (its_tables ts cs i e))

  -- the head and the body of its record
  pub short_kind : Whole k ts → k < 2 ^ 16
  short_kind (of_triangles i cs e) = omega arith
  short_kind (of_polygons i cs e) = omega arith

  pub in_a_record : {n : ℕ} → n ≡ 2 * length ts → Whole k ts → OfKind k n
  in_a_record h (of_triangles i cs e) = triangles_record i (omega (arith, (length_of_triangles ts cs e).1))
  in_a_record h (of_polygons i cs e) = polygons_record i (omega arith)

-- ---- its numbers

-- each number has room in two bytes
abbrev pub InTwoBytes : List ℕ → Type 0
InTwoBytes ns = (i : ℕ) → get_or ns i 0 < 2 ^ 16

first_part : (s t : List ℕ) → InTwoBytes (s ++ t) → InTwoBytes s
first_part [] t h i = omega arith
first_part (x ∷ s) t h zero = h 0
first_part (x ∷ s) t h (suc i) = first_part s t (λ j. h (suc j)) i

second_part : (s t : List ℕ) → InTwoBytes (s ++ t) → InTwoBytes t
second_part [] t h = h
second_part (x ∷ s) t h = second_part s t (λ j. h (suc j))

first_of_pairs : (xs ns : List ℕ) → length ns ≡ length xs → InTwoBytes (pairs xs ns) → InTwoBytes xs
unfolding pairs
first_of_pairs [] ns e h i = omega arith
first_of_pairs (x ∷ xs) [] e h i = absurd (omega arith)
first_of_pairs (x ∷ xs) (n ∷ ns) e h zero = h 0
first_of_pairs (x ∷ xs) (n ∷ ns) e h (suc i) = first_of_pairs xs ns (omega arith) (λ j. h (suc (suc j))) i

second_of_pairs : (xs ns : List ℕ) → length ns ≡ length xs → InTwoBytes (pairs xs ns) → InTwoBytes ns
unfolding pairs
second_of_pairs [] [] e h i = omega arith
second_of_pairs [] (n ∷ ns) e h i = absurd (omega arith)
second_of_pairs (x ∷ xs) [] e h i = omega arith
second_of_pairs (x ∷ xs) (n ∷ ns) e h zero = h 1
second_of_pairs (x ∷ xs) (n ∷ ns) e h (suc i) = second_of_pairs xs ns (omega arith) (λ j. h (suc (suc j))) i

-- a cell's numbers before those of other cells
one_cell : {c : Cell} (cs : List Cell) (ns : List ℕ) → Polygon c → InTwoBytes (faces_of (c ∷ cs)) → (InTwoBytes (faces_of cs) → InTwoBytes ns) → InTwoBytes (c.corners ++ (c.neighbours ++ ns))
unfolding faces_of
one_cell {c} cs ns s h rest =
    let here = first_part (pairs c.corners c.neighbours) (faces_of cs) h in
    let there = second_part (pairs c.corners c.neighbours) (faces_of cs) h in
    append_below c.corners (c.neighbours ++ ns) (first_of_pairs c.corners c.neighbours s.as_many here)
    (append_below c.neighbours ns (second_of_pairs c.corners c.neighbours s.as_many here) (rest there))

polygons_in_two_bytes : {cs : List Cell} → Every Polygon cs → InTwoBytes (faces_of cs) → InTwoBytes (as_polygons cs)
unfolding as_polygons
polygons_in_two_bytes none h i = omega arith
polygons_in_two_bytes (more {c} {cs} s e) h zero = omega (arith, s.at_most)
polygons_in_two_bytes (more {c} {cs} s e) h (suc i) = one_cell cs (as_polygons cs) s h (polygons_in_two_bytes e) i

triangles_in_two_bytes : {cs : List Cell} → Every Polygon cs → InTwoBytes (faces_of cs) → InTwoBytes (as_triangles cs)
unfolding as_triangles
triangles_in_two_bytes none h i = omega arith
triangles_in_two_bytes (more {c} {cs} s e) h i = one_cell cs (as_triangles cs) s h (triangles_in_two_bytes e) i

module _ {k : ℕ} {ts : List ℕ} where
  -- where its faces' numbers have room, so have all
  pub numbers_in_two_bytes : Whole k ts → InTwoBytes (cells_of k ts).faces → InTwoBytes ts
  unfolding tables
  numbers_in_two_bytes (of_triangles i cs e) h =
      subst InTwoBytes (as_triangles_of_cut ts cs e)
      (triangles_in_two_bytes (triangles_are_polygons (every_triangle ts cs e)) (subst (λ (T : Cells). InTwoBytes T.faces) (its_tables ts cs i e) h))
  numbers_in_two_bytes (of_polygons i cs e) h =
      subst InTwoBytes (as_polygons_of_cut ts cs e)
      (polygons_in_two_bytes (every_polygon ts cs e) (subst (λ (T : Cells). InTwoBytes T.faces) (its_tables ts cs i e) h))

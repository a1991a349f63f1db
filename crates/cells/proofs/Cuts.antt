-- Laws of cutting: a list that is cut into whole cells is the one list of these cells, they have 3 to 8 corners and as many neighbours, and from their
-- list of either kind they come back. So a list is cut one cell at a time, whatever the number of cells that may be cut off.
use mathlib.Core.Bool.{Bool, true, false, ◌&&◌, and-false}
use mathlib.Core.List.{List, [], ◌∷◌, ◌++◌}
use mathlib.Core.Path.{◌≡◌, refl, sym, ap, ap₂, subst, ◌∙◌}
use Prim.Native.Nat.{ℕ, zero, suc, ◌+◌, ◌*◌, ◌<◌, ◌≤◌}
use native.Mathlib.Decide.{ℕ_discrete}
use native.Mathlib.Omega.{arith}
use borrow.Author.Tests.{le-leb, lt-leb, leb-true, ne_eqb}
use lib.Dec.{leb}
use lib.ListN.{length, take, drop, length-append, length-drop, take-append-drop}
use lib.Seq.{take_at, drop_at, drop-drop, length-take-le}
use Rattle.exact.proofs.Truth.{both_true}
use Rattle.limits.specs.Limits.{least_sides, most_sides, triangles, polygons}
use Rattle.cells.specs.Cut.{Cell, Cut, whole, broken, cell_of, onto, cut_triangles, cut_polygons, cut, is_whole, cells_in, tables, cells_of, as_polygons, as_triangles}
use Rattle.cells.proofs.Least.{not_both}

-- ---- the cells of a list, one by one

pub data Every (P : Cell → Type 0) : List Cell → Type 0 where
  none : Every P []
  more : {c : Cell} {cs : List Cell} → P c → Every P cs → Every P (c ∷ cs)

-- a cell has from a to b corners, and as many neighbours
pub record Sided (a b : ℕ) (c : Cell) : Type 0 where
  pub at_least : a ≤ length c.corners
  pub at_most : length c.corners ≤ b
  pub as_many : length c.neighbours ≡ length c.corners

-- what stands in a plan: from 3 to 8
abbrev pub Polygon : Cell → Type 0
Polygon = Sided least_sides most_sides

abbrev pub Triangle : Cell → Type 0
Triangle = Sided 3 3

pub triangle_is_polygon : {c : Cell} → Triangle c → Polygon c
triangle_is_polygon s = record { at_least = s.at_least; at_most = omega (arith, s.at_most); as_many = s.as_many }

pub triangles_are_polygons : {cs : List Cell} → Every Triangle cs → Every Polygon cs
triangles_are_polygons none = none
triangles_are_polygons (more s h) = more (triangle_is_polygon s) (triangles_are_polygons h)

-- ---- one cell at the beginning of a list

module _ (n : ℕ) (xs : List ℕ) where
  behind_a_cell : drop n (drop n xs) ≡ drop (2 * n) xs
  behind_a_cell =
      let twice : n + n ≡ 2 * n = omega arith in
      drop-drop n n xs ∙ ap (λ (m : ℕ). drop m xs) twice

  module _ (room : 2 * n ≤ length xs) where
    pub corners_of_cell : length (cell_of n xs).corners ≡ n
    unfolding cell_of
    corners_of_cell = length-take-le n xs (omega arith)

    pub neighbours_of_cell : length (cell_of n xs).neighbours ≡ n
    unfolding cell_of
    neighbours_of_cell = length-take-le n (drop n xs) (omega (arith, length-drop n xs))

    pub cell_is_sided : {a b : ℕ} → a ≤ n → n ≤ b → Sided a b (cell_of n xs)
    cell_is_sided l m =
        record {
          at_least = omega (arith, corners_of_cell);
          at_most = omega (arith, corners_of_cell);
          as_many = neighbours_of_cell ∙ sym corners_of_cell;
        }

  put_together : {ys : List ℕ} → ys ≡ drop (2 * n) xs → (cell_of n xs).corners ++ ((cell_of n xs).neighbours ++ ys) ≡ xs
  unfolding cell_of
  put_together {ys} e =
      ap (λ (l : List ℕ). take n xs ++ (take n (drop n xs) ++ l)) (e ∙ sym behind_a_cell)
      ∙ ap (λ (l : List ℕ). take n xs ++ l) (take-append-drop n (drop n xs))
      ∙ take-append-drop n xs

module _ (c : Cell) (n : ℕ) (as_corners : length c.corners ≡ n) (as_neighbours : length c.neighbours ≡ n) (rest : List ℕ) where
  cell_stands : cell_of n (c.corners ++ (c.neighbours ++ rest)) ≡ c
  unfolding cell_of
  cell_stands =
      ap₂ {C = Cell} (λ (cs ns : List ℕ). record { corners = cs; neighbours = ns })
      (take_at c.corners (c.neighbours ++ rest) n as_corners)
      (ap (take n) (drop_at c.corners (c.neighbours ++ rest) n as_corners) ∙ take_at c.neighbours rest n as_neighbours)

  rest_stands : drop (2 * n) (c.corners ++ (c.neighbours ++ rest)) ≡ rest
  rest_stands =
      sym (behind_a_cell n (c.corners ++ (c.neighbours ++ rest)))
      ∙ ap (drop n) (drop_at c.corners (c.neighbours ++ rest) n as_corners)
      ∙ drop_at c.neighbours rest n as_neighbours

  length_of_cell : length (c.corners ++ (c.neighbours ++ rest)) ≡ 2 * n + length rest
  length_of_cell = omega (arith, length-append c.corners (c.neighbours ++ rest), length-append c.neighbours rest)

-- ---- what is cut off

-- a cell of x corners stands behind its count x
abbrev is_polygon : ℕ → List ℕ → Bool
is_polygon x xs = leb least_sides x && leb x most_sides && leb (2 * x) (length xs)

module _ (x : ℕ) (xs : List ℕ) where
  polygon_stands : least_sides ≤ x → x ≤ most_sides → 2 * x ≤ length xs → is_polygon x xs ≡ true
  polygon_stands h k l = simp (le-leb least_sides x h, le-leb x most_sides k, le-leb (2 * x) (length xs) l)

  polygon_is : is_polygon x xs ≡ true → (least_sides ≤ x) × (x ≤ most_sides) × (2 * x ≤ length xs)
  polygon_is e =
      let p = both_true (leb least_sides x && leb x most_sides) (leb (2 * x) (length xs)) e in
      let q = both_true (leb least_sides x) (leb x most_sides) p.0 in
      (leb-true least_sides x q.0, leb-true x most_sides q.1, leb-true (2 * x) (length xs) p.1)

-- where a cut is whole, its cells, listed, are the list, and each has from a to b corners
abbrev Fits : (List Cell → List ℕ) → ℕ → ℕ → List ℕ → Cut → Type 0
Fits listed a b ts (whole cs) = (listed cs ≡ ts) × Every (Sided a b) cs
Fits listed a b ts broken = Unit {0}

polygons_fit : (n : ℕ) (ts : List ℕ) → Fits as_polygons least_sides most_sides ts (cut_polygons n ts)
unfolding cut_polygons as_polygons
polygons_fit zero [] = (refl, none)
polygons_fit zero (x ∷ xs) = tt
polygons_fit (suc n) [] = (refl, none)
polygons_fit (suc n) (x ∷ xs) = by_test (is_polygon x xs) refl (cut_polygons n (drop (2 * x) xs)) (polygons_fit n (drop (2 * x) xs))
  where
    by_test : (b : Bool) → is_polygon x xs ≡ b → (r : Cut) → Fits as_polygons least_sides most_sides (drop (2 * x) xs) r → Fits as_polygons least_sides most_sides (x ∷ xs) (elim b [ true ↦ onto (cell_of x xs) r | false ↦ broken ])
    by_test true e (whole cs) h =
        let p = polygon_is x xs e in (
          ap₂ {C = List ℕ} (λ (y : ℕ) (ys : List ℕ). y ∷ ys) (corners_of_cell x xs p.2) (put_together x xs h.0),
          more (cell_is_sided x xs p.2 p.0 p.1) h.1,
        )
    by_test true e broken h = tt
    by_test false e r h = tt

triangles_fit : (n : ℕ) (ts : List ℕ) → Fits as_triangles 3 3 ts (cut_triangles n ts)
unfolding cut_triangles as_triangles
triangles_fit zero [] = (refl, none)
triangles_fit zero (x ∷ xs) = tt
triangles_fit (suc n) [] = (refl, none)
triangles_fit (suc n) (x ∷ xs) = by_test (leb 6 (length (x ∷ xs))) refl (cut_triangles n (drop 6 (x ∷ xs))) (triangles_fit n (drop 6 (x ∷ xs)))
  where
    by_test : (b : Bool) → leb 6 (length (x ∷ xs)) ≡ b → (r : Cut) → Fits as_triangles 3 3 (drop 6 (x ∷ xs)) r → Fits as_triangles 3 3 (x ∷ xs) (elim b [ true ↦ onto (cell_of 3 (x ∷ xs)) r | false ↦ broken ])
    by_test true e (whole cs) h = (
      put_together 3 (x ∷ xs) h.0,
      more (cell_is_sided 3 (x ∷ xs) (leb-true 6 (length (x ∷ xs)) e) (omega arith) (omega arith)) h.1,
    )
    by_test true e broken h = tt
    by_test false e r h = tt

-- ---- one cell cut off, where n more may be

module _ (n x : ℕ) (xs : List ℕ) where
  polygon_off : is_polygon x xs ≡ true → cut_polygons (suc n) (x ∷ xs) ≡ onto (cell_of x xs) (cut_polygons n (drop (2 * x) xs))
  unfolding cut_polygons
  polygon_off e = rw (e, cut_polygons)

  no_polygon_off : is_polygon x xs ≡ false → cut_polygons (suc n) (x ∷ xs) ≡ broken
  unfolding cut_polygons
  no_polygon_off e = rw (e, cut_polygons)

triangle_off : (n : ℕ) (ts : List ℕ) → 6 ≤ length ts → cut_triangles (suc n) ts ≡ onto (cell_of 3 ts) (cut_triangles n (drop 6 ts))
unfolding cut_triangles
triangle_off n [] h = absurd (omega arith)
triangle_off n (x ∷ xs) h = rw (le-leb 6 (length (x ∷ xs)) h, cut_triangles)

-- ---- cells come back from their list

polygons_come_back : (n : ℕ) (cs : List Cell) → Every Polygon cs → length (as_polygons cs) ≤ n → cut_polygons n (as_polygons cs) ≡ whole cs
unfolding cut_polygons as_polygons
polygons_come_back zero [] none h = refl
polygons_come_back zero (c ∷ cs) (more s e) h = absurd (omega arith)
polygons_come_back (suc n) [] none h = refl
polygons_come_back (suc n) (c ∷ cs) (more s e) h =
    let m = length c.corners in
    let long : length (c.corners ++ (c.neighbours ++ as_polygons cs)) ≡ 2 * m + length (as_polygons cs) = length_of_cell c m refl s.as_many (as_polygons cs) in
    let xs = c.corners ++ (c.neighbours ++ as_polygons cs) in
    polygon_off n m xs (polygon_stands m xs s.at_least s.at_most (omega arith))
    ∙ ap₂ (λ (d : Cell) (l : List ℕ). onto d (cut_polygons n l)) (cell_stands c m refl s.as_many (as_polygons cs)) (rest_stands c m refl s.as_many (as_polygons cs))
    ∙ ap (onto c) (polygons_come_back n cs e (omega arith))

triangles_come_back : (n : ℕ) (cs : List Cell) → Every Triangle cs → length (as_triangles cs) ≤ n → cut_triangles n (as_triangles cs) ≡ whole cs
unfolding cut_triangles as_triangles
triangles_come_back zero [] none h = refl
triangles_come_back zero (c ∷ cs) (more s e) h = absurd (omega (arith, s.at_least, length-append c.corners (c.neighbours ++ as_triangles cs)))
triangles_come_back (suc n) [] none h = refl
triangles_come_back (suc n) (c ∷ cs) (more s e) h =
    let three : length c.corners ≡ 3 = omega (arith, s.at_least, s.at_most) in
    let across : length c.neighbours ≡ 3 = s.as_many ∙ three in
    let long : length (c.corners ++ (c.neighbours ++ as_triangles cs)) ≡ 6 + length (as_triangles cs) = length_of_cell c 3 three across (as_triangles cs) in
    triangle_off n (c.corners ++ (c.neighbours ++ as_triangles cs)) (omega arith)
    ∙ ap₂ (λ (d : Cell) (l : List ℕ). onto d (cut_triangles n l)) (cell_stands c 3 three across (as_triangles cs)) (rest_stands c 3 three across (as_triangles cs))
    ∙ ap (onto c) (triangles_come_back n cs e (omega arith))

-- ---- it does not matter how many cells may be cut off, if they are enough

module _ (listed : List Cell → List ℕ) (a b : ℕ) (f : ℕ → List ℕ → Cut)
    (fit : (n : ℕ) (ts : List ℕ) → Fits listed a b ts (f n ts))
    (come_back : (n : ℕ) (cs : List Cell) → Every (Sided a b) cs → length (listed cs) ≤ n → f n (listed cs) ≡ whole cs)
    (ts : List ℕ)
  where
    still_whole : (n m : ℕ) (cs : List Cell) → length ts ≤ m → f n ts ≡ whole cs → f m ts ≡ whole cs
    still_whole n m cs h e =
        let s : Fits listed a b ts (whole cs) = subst (Fits listed a b ts) e (fit n ts) in
        subst (λ (l : List ℕ). f m l ≡ whole cs) s.0 (come_back m cs s.1 (subst (λ (l : List ℕ). length l ≤ m) (sym s.0) h))

    enough : (n m : ℕ) → length ts ≤ n → length ts ≤ m → f n ts ≡ f m ts
    enough n m h k = by_cuts (f n ts) (f m ts) refl refl
      where
        by_cuts : (r q : Cut) → f n ts ≡ r → f m ts ≡ q → f n ts ≡ f m ts
        by_cuts (whole cs) q e g = e ∙ sym (still_whole n m cs k e)
        by_cuts broken (whole cs) e g = absurd (not_both (ap is_whole (still_whole m n cs h g)) (ap is_whole e))
        by_cuts broken broken e g = e ∙ sym g

-- ---- there and back

pub tables_of_cut : (k : ℕ) (ts : List ℕ) {cs : List Cell} → cut k ts ≡ whole cs → cells_of k ts ≡ tables cs
unfolding cells_of
tables_of_cut k ts e = ap (λ (r : Cut). tables (cells_in r)) e

pub cut_as_polygons : (cs : List Cell) → Every Polygon cs → cut polygons (as_polygons cs) ≡ whole cs
unfolding cut
cut_as_polygons cs e = polygons_come_back (length (as_polygons cs)) cs e (omega arith)

pub cut_as_triangles : (cs : List Cell) → Every Triangle cs → cut triangles (as_triangles cs) ≡ whole cs
unfolding cut
cut_as_triangles cs e = triangles_come_back (length (as_triangles cs)) cs e (omega arith)

module _ (ts : List ℕ) (cs : List Cell) where
  module _ (e : cut polygons ts ≡ whole cs) where
    polygons_fit_cut : Fits as_polygons least_sides most_sides ts (whole cs)
    unfolding cut
    polygons_fit_cut = subst (Fits as_polygons least_sides most_sides ts) e (polygons_fit (length ts) ts)

    pub as_polygons_of_cut : as_polygons cs ≡ ts
    as_polygons_of_cut = polygons_fit_cut.0

    pub every_polygon : Every Polygon cs
    every_polygon = polygons_fit_cut.1

  module _ (e : cut triangles ts ≡ whole cs) where
    triangles_fit_cut : Fits as_triangles 3 3 ts (whole cs)
    unfolding cut
    triangles_fit_cut = subst (Fits as_triangles 3 3 ts) e (triangles_fit (length ts) ts)

    pub as_triangles_of_cut : as_triangles cs ≡ ts
    as_triangles_of_cut = triangles_fit_cut.0

    pub every_triangle : Every Triangle cs
    every_triangle = triangles_fit_cut.1

    -- the same cells in a list of the other kind
    pub triangles_in_either_kind : cut polygons (as_polygons cs) ≡ whole cs
    triangles_in_either_kind = cut_as_polygons cs (triangles_are_polygons every_triangle)

    pub same_tables_in_either_kind : cells_of triangles ts ≡ cells_of polygons (as_polygons cs)
    same_tables_in_either_kind = tables_of_cut triangles ts e ∙ sym (tables_of_cut polygons (as_polygons cs) triangles_in_either_kind)

-- ---- a list of kind k, whichever

-- there is no other kind
pub other_kind : (k : ℕ) (ts : List ℕ) → (k ≡ triangles → ⊥) → (k ≡ polygons → ⊥) → cut k ts ≡ broken
unfolding cut
other_kind k ts h l = rw (ne_eqb k triangles h, ne_eqb k polygons l, cut)

pub polygons_otherwise : (k : ℕ) (ts : List ℕ) → is_whole (cut k ts) ≡ true → (k ≡ triangles → ⊥) → k ≡ polygons
polygons_otherwise k ts w h = by_kind (ℕ_discrete k polygons)
  where
    by_kind : Dec (k ≡ polygons) → k ≡ polygons
    by_kind (yes e) = e
    by_kind (no l) = absurd (not_both w (ap is_whole (other_kind k ts h l)))

-- each cell of a list that is cut into whole cells has 3 to 8 corners and as many neighbours
pub every_cell : (k : ℕ) (ts : List ℕ) (cs : List Cell) → cut k ts ≡ whole cs → Every Polygon cs
every_cell k ts cs e = by_kind (ℕ_discrete k triangles)
  where
    by_kind : Dec (k ≡ triangles) → Every Polygon cs
    by_kind (yes h) = triangles_are_polygons (every_triangle ts cs (ap (λ (j : ℕ). cut j ts) (sym h) ∙ e))
    by_kind (no h) = every_polygon ts cs (ap (λ (j : ℕ). cut j ts) (sym (polygons_otherwise k ts (ap is_whole e) h)) ∙ e)

-- ---- one cell at a time

pub whole_onto : (c : Cell) (r : Cut) → is_whole (onto c r) ≡ is_whole r
whole_onto c (whole cs) = refl
whole_onto c broken = refl

module _ (x : ℕ) (xs : List ℕ) where
  cut_on_polygon : is_polygon x xs ≡ true → cut polygons (x ∷ xs) ≡ onto (cell_of x xs) (cut polygons (drop (2 * x) xs))
  unfolding cut
  cut_on_polygon e =
      polygon_off (length xs) x xs e
      ∙ ap (onto (cell_of x xs)) (enough as_polygons least_sides most_sides cut_polygons polygons_fit polygons_come_back (drop (2 * x) xs) (length xs) (length (drop (2 * x) xs)) (omega (arith, length-drop (2 * x) xs)) (omega arith))

  pub cut_a_polygon : least_sides ≤ x → x ≤ most_sides → 2 * x ≤ length xs → cut polygons (x ∷ xs) ≡ onto (cell_of x xs) (cut polygons (drop (2 * x) xs))
  cut_a_polygon h k l = cut_on_polygon (polygon_stands x xs h k l)

  cut_no_polygon : is_polygon x xs ≡ false → cut polygons (x ∷ xs) ≡ broken
  unfolding cut
  cut_no_polygon e = no_polygon_off (length xs) x xs e

  pub cut_too_few_corners : x < least_sides → cut polygons (x ∷ xs) ≡ broken
  cut_too_few_corners h = cut_no_polygon (simp (lt-leb least_sides x h))

  pub cut_too_many_corners : most_sides < x → cut polygons (x ∷ xs) ≡ broken
  cut_too_many_corners h = cut_no_polygon (simp (lt-leb x most_sides h, and-false (leb least_sides x)))

  pub cut_past_the_end : length xs < 2 * x → cut polygons (x ∷ xs) ≡ broken
  cut_past_the_end h = cut_no_polygon (simp (lt-leb (2 * x) (length xs) h, and-false (leb least_sides x && leb x most_sides)))

  -- where the cut is whole, a cell stands at the beginning
  pub polygon_at_the_beginning : is_whole (cut polygons (x ∷ xs)) ≡ true → (least_sides ≤ x) × (x ≤ most_sides) × (2 * x ≤ length xs)
  polygon_at_the_beginning e = by_test (is_polygon x xs) refl
    where
      by_test : (b : Bool) → is_polygon x xs ≡ b → (least_sides ≤ x) × (x ≤ most_sides) × (2 * x ≤ length xs)
      by_test true h = polygon_is x xs h
      by_test false h = absurd (not_both e (ap is_whole (cut_no_polygon h)))

pub cut_a_triangle : (ts : List ℕ) → 6 ≤ length ts → cut triangles ts ≡ onto (cell_of 3 ts) (cut triangles (drop 6 ts))
unfolding cut
cut_a_triangle ts h =
    enough as_triangles 3 3 cut_triangles triangles_fit triangles_come_back ts (length ts) (suc (length ts)) (omega arith) (omega arith)
    ∙ triangle_off (length ts) ts h
    ∙ ap (onto (cell_of 3 ts)) (enough as_triangles 3 3 cut_triangles triangles_fit triangles_come_back (drop 6 ts) (length ts) (length (drop 6 ts)) (omega (arith, length-drop 6 ts)) (omega arith))

pub cut_no_polygons : cut polygons [] ≡ whole []
unfolding cut cut_polygons
cut_no_polygons = refl

pub cut_no_triangles : cut triangles [] ≡ whole []
unfolding cut cut_triangles
cut_no_triangles = refl

-- a list of as many numbers as m triangles have is cut into whole cells
pub cut_into_triangles : (m : ℕ) (ts : List ℕ) → length ts ≡ 6 * m → is_whole (cut triangles ts) ≡ true
cut_into_triangles zero [] e = ap is_whole cut_no_triangles
cut_into_triangles zero (x ∷ xs) e = absurd (omega arith)
cut_into_triangles (suc m) ts e =
    ap is_whole (cut_a_triangle ts (omega arith))
    ∙ whole_onto (cell_of 3 ts) (cut triangles (drop 6 ts))
    ∙ cut_into_triangles m (drop 6 ts) (omega (arith, length-drop 6 ts))

-- Loops over the cells of a list: which cells are passed. The list is cut into them and into what its rest, alone, is cut into.
use mathlib.Core.Bool.{true}
use mathlib.Core.List.{List, [], ◌∷◌, ◌++◌, append-nil}
use mathlib.Core.Path.{◌≡◌, refl, sym, ap, ◌∙◌}
use Prim.Native.Nat.{ℕ, ◌+◌, ◌*◌, ◌≤◌}
use native.Mathlib.Omega.{arith}
use lib.ListN.{length, drop, length-append}
use Rattle.limits.specs.Limits.{least_sides, most_sides, triangles, polygons}
use Rattle.cells.specs.Lists.{Cells, cell_count, face_count}
use Rattle.cells.specs.Cut.{Cell, Cut, whole, broken, onto, cell_of, cut, is_whole, cells_in, cells_of}
use Rattle.cells.proofs.Least.{not_both}
use Rattle.cells.proofs.Cuts.{Every, none, Polygon, cell_is_sided, corners_of_cell, whole_onto, cut_a_polygon, cut_a_triangle, polygon_at_the_beginning}
use Rattle.cells.proofs.Tables.{sides_in, sides_behind, every_with_one_more, every_cell_in, cell_count_of, face_count_of}

no_list : (l : List ℕ) → length l ≡ 0 → l ≡ []
no_list [] h = refl
no_list (x ∷ l) h = absurd (omega arith)

-- what a list is cut into whose first cells are these
unfoldable pub all_onto : List Cell → Cut → Cut
all_onto [] r = r
all_onto (c ∷ cs) r = onto c (all_onto cs r)

onto_one_more : (cs : List Cell) (c : Cell) (r : Cut) → all_onto cs (onto c r) ≡ all_onto (cs ++ (c ∷ [])) r
unfolding all_onto
onto_one_more [] c r = refl
onto_one_more (d ∷ cs) c r = ap (onto d) (onto_one_more cs c r)

onto_whole : (cs ds : List Cell) → all_onto cs (whole ds) ≡ whole (cs ++ ds)
unfolding all_onto
onto_whole [] ds = refl
onto_whole (c ∷ cs) ds = ap (onto c) (onto_whole cs ds)

onto_broken : (cs : List Cell) → all_onto cs broken ≡ broken
unfolding all_onto
onto_broken [] = refl
onto_broken (c ∷ cs) = ap (onto c) (onto_broken cs)

is_whole_onto : (cs : List Cell) (r : Cut) → is_whole (all_onto cs r) ≡ is_whole r
unfolding all_onto
is_whole_onto [] r = refl
is_whole_onto (c ∷ cs) r = whole_onto c (all_onto cs r) ∙ is_whole_onto cs r

-- a loop over a list of kind k is at the rest of it: it has passed c cells of f sides
pub record Passed (k : ℕ) (ts rest : List ℕ) (c f : ℕ) (done : List Cell) : Type 0 where
  pub polygons : Every Polygon done
  pub cells : length done ≡ c
  pub sides : sides_in done ≡ f
  pub same : cut k ts ≡ all_onto done (cut k rest)

pub passed_nothing : (k : ℕ) (ts : List ℕ) → Passed k ts ts 0 0 []
unfolding all_onto sides_in
passed_nothing k ts = record { polygons = none; cells = refl; sides = refl; same = refl }

-- ---- one cell more

one_passed : {k : ℕ} {ts rest : List ℕ} {c f : ℕ} {done : List Cell} → Passed k ts rest c f done → (d : Cell) {rest' : List ℕ} {f' : ℕ} → Polygon d → f + length d.corners ≡ f' → cut k rest ≡ onto d (cut k rest') → Passed k ts rest' (c + 1) f' (done ++ (d ∷ []))
unfolding sides_in
one_passed {k} {ts} {rest} {c} {f} {done} p d {rest'} {f'} s is_f e =
    record {
      polygons = every_with_one_more d p.polygons s;
      cells = omega (arith, length-append done (d ∷ []), p.cells);
      sides = omega (arith, sides_behind done (d ∷ []), p.sides);
      same = p.same ∙ ap (all_onto done) e ∙ onto_one_more done d (cut k rest');
    }

module _ {ts xs rest : List ℕ} {c f : ℕ} {done : List Cell} where
  pub polygon_passed : {n : ℕ} → Passed polygons ts (n ∷ xs) c f done → least_sides ≤ n → n ≤ most_sides → 2 * n ≤ length xs → rest ≡ drop (2 * n) xs → {f' : ℕ} → f' ≡ f + n → Passed polygons ts rest (c + 1) f' (done ++ (cell_of n xs ∷ []))
  polygon_passed {n} p l m fits is_rest {f'} is_f =
      one_passed p (cell_of n xs) (cell_is_sided n xs fits l m) (omega (arith, corners_of_cell n xs fits))
      (cut_a_polygon n xs l m fits ∙ ap (λ (l : List ℕ). onto (cell_of n xs) (cut polygons l)) (sym is_rest))

  pub triangle_passed : Passed triangles ts xs c f done → 6 ≤ length xs → rest ≡ drop 6 xs → {f' : ℕ} → f' ≡ f + 3 → Passed triangles ts rest (c + 1) f' (done ++ (cell_of 3 xs ∷ []))
  triangle_passed p fits is_rest {f'} is_f =
      one_passed p (cell_of 3 xs) (cell_is_sided 3 xs fits (omega arith) (omega arith)) (omega (arith, corners_of_cell 3 xs fits))
      (cut_a_triangle xs fits ∙ ap (λ (l : List ℕ). onto (cell_of 3 xs) (cut triangles l)) (sym is_rest))

-- ---- what is known of the whole list

module _ {k : ℕ} {ts rest : List ℕ} {c f : ℕ} {done : List Cell} (p : Passed k ts rest c f done) where
  -- the rest begins with no cell
  pub broken_at : cut k rest ≡ broken → cut k ts ≡ broken
  broken_at e = p.same ∙ ap (all_onto done) e ∙ onto_broken done

  pub all_passed : length rest ≡ 0 → cut k [] ≡ whole [] → cut k ts ≡ whole done
  all_passed h e =
      p.same
      ∙ ap (λ (l : List ℕ). all_onto done (cut k l)) (no_list rest h)
      ∙ ap (all_onto done) e
      ∙ onto_whole done []
      ∙ ap whole (append-nil done)

  module _ (w : is_whole (cut k ts) ≡ true) where
    pub whole_behind : is_whole (cut k rest) ≡ true
    whole_behind = sym (is_whole_onto done (cut k rest)) ∙ ap is_whole (sym p.same) ∙ w

    -- the cells passed are the list's first
    cells_behind : cells_in (cut k ts) ≡ done ++ cells_in (cut k rest)
    cells_behind = by_cut (cut k rest) refl
      where
        by_cut : (r : Cut) → cut k rest ≡ r → cells_in (cut k ts) ≡ done ++ cells_in (cut k rest)
        by_cut (whole ds) e =
            ap cells_in (p.same ∙ ap (all_onto done) e ∙ onto_whole done ds) ∙ ap (λ (q : Cut). done ++ cells_in q) (sym e)
        by_cut broken e = absurd (not_both whole_behind (ap is_whole e))

    pub cells_within : c ≤ cell_count (cells_of k ts)
    unfolding cells_of
    cells_within =
        let ds : List Cell = cells_in (cut k rest) in
        omega (arith, cell_count_of (cells_in (cut k ts)), ap length cells_behind, length-append done ds, p.cells)

    pub sides_within : f ≤ face_count (cells_of k ts)
    unfolding cells_of
    sides_within =
        let ds : List Cell = cells_in (cut k rest) in
        omega (arith, face_count_of (every_cell_in k ts), ap sides_in cells_behind, sides_behind done ds, p.sides)

-- ---- where the list is cut into whole cells, a loop that is not at its end is at a cell

-- a cell of n corners is ahead, one of T, at the beginning of xs
pub record Ahead (T : Cells) (n : ℕ) (xs : List ℕ) (c f : ℕ) : Type 0 where
  pub at_least : least_sides ≤ n
  pub at_most : n ≤ most_sides
  pub room : 2 * n ≤ length xs
  pub cell : c + 1 ≤ cell_count T
  pub sides : f + n ≤ face_count T

pub polygon_ahead : {ts xs : List ℕ} {n c f : ℕ} {done : List Cell} → Passed polygons ts (n ∷ xs) c f done → is_whole (cut polygons ts) ≡ true → Ahead (cells_of polygons ts) n xs c f
polygon_ahead {ts} {xs} {n} {c} {f} {done} p w =
    let here = polygon_at_the_beginning n xs (whole_behind p w) in
    let next = polygon_passed {rest = drop (2 * n) xs} p here.0 here.1 here.2 refl refl in
    record { at_least = here.0; at_most = here.1; room = here.2; cell = cells_within next w; sides = sides_within next w }

pub triangle_ahead : {ts xs : List ℕ} {c f : ℕ} {done : List Cell} → Passed triangles ts xs c f done → is_whole (cut triangles ts) ≡ true → 6 ≤ length xs → Ahead (cells_of triangles ts) 3 xs c f
triangle_ahead {ts} {xs} {c} {f} {done} p w fits =
    let next = triangle_passed {rest = drop 6 xs} p fits refl refl in
    record { at_least = omega arith; at_most = omega arith; room = omega arith; cell = cells_within next w; sides = sides_within next w }

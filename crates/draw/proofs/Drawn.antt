-- Loops that draw tables: the sides of one cell, and the cells drawn so far.
use mathlib.Core.Bool.{true}
use mathlib.Core.List.{List, [], ◌∷◌, ◌++◌}
use mathlib.Core.Path.{◌≡◌, refl, sym, ap, ap₂, ◌∙◌}
use Prim.Native.Nat.{ℕ, zero, suc, ◌+◌, ◌*◌, ◌<◌, ◌≤◌}
use native.Mathlib.Numerals.{add-one}
use native.Mathlib.Omega.{arith}
use lib.ListN.{length, take, drop, get_or, set, length-set, length-drop, length-append}
use lib.Seq.{sets, length-sets, length-take-le, take-suc-set, take_all, take_at, drop_at, sets-eq}
use Rattle.std.proofs.lemmas.List.{take-append-le, drop-append-le}
use Rattle.exact.proofs.Lent.{sets_then}
use Rattle.limits.specs.Limits.{triangles}
use Rattle.cells.specs.Lists.{Cells, cell_count, face_count}
use Rattle.cells.specs.Cut.{Cell, whole, cut, is_whole, cell_of, pairs, faces_of, firsts_from, tables, cells_of}
use Rattle.cells.proofs.Cuts.{corners_of_cell, neighbours_of_cell, tables_of_cut}
use Rattle.cells.proofs.Tables.{sides_in, length_pairs, cell_count_of, face_count_of, faces_with_one_more, firsts_with_one_more}
use Rattle.draw.proofs.Passed.{Passed, passed_nothing, triangle_passed, all_passed, cells_within, sides_within}

-- ---- the sides of one cell

pairs_one_more : (i : ℕ) (xs ns : List ℕ) → i < length xs → i < length ns → pairs (take (suc i) xs) (take (suc i) ns) ≡ pairs (take i xs) (take i ns) ++ (get_or xs i 0 ∷ get_or ns i 0 ∷ [])
unfolding pairs
pairs_one_more i [] ns h l = absurd (omega arith)
pairs_one_more i (x ∷ xs) [] h l = absurd (omega arith)
pairs_one_more zero (x ∷ xs) (n ∷ ns) h l = refl
pairs_one_more (suc i) (x ∷ xs) (n ∷ ns) h l = ap (λ (r : List ℕ). x ∷ n ∷ r) (pairs_one_more i xs ns (omega arith) (omega arith))

-- i sides of a cell stand, from the first of face f on, and one side more
pub one_side_drawn : (l₀ : List ℕ) {l : List ℕ} (f : ℕ) (xs ns : List ℕ) {i : ℕ} → length ns ≡ length xs → i < length xs → l ≡ sets l₀ (2 * f) (pairs (take i xs) (take i ns)) → set (set l (2 * (f + i)) (get_or xs i 0)) (2 * (f + i) + 1) (get_or ns i 0) ≡ sets l₀ (2 * f) (pairs (take (i + 1) xs) (take (i + 1) ns))
one_side_drawn l₀ {l} f xs ns {i} same h so_far =
    let a : ℕ = get_or xs i 0 in
    let b : ℕ = get_or ns i 0 in
    let few : length (take i xs) ≡ i = length-take-le i xs (omega arith) in
    let as_many : length (take i ns) ≡ i = length-take-le i ns (omega arith) in
    let here : 2 * f + length (pairs (take i xs) (take i ns)) ≡ 2 * (f + i) = omega (arith, length_pairs (take i xs) (take i ns) (as_many ∙ sym few)) in
    ap₂ (λ (m : List ℕ) (j : ℕ). set (set m (2 * (f + i)) a) j b) so_far (add-one (2 * (f + i)))
    ∙ sets_then l₀ (2 * f) (2 * (f + i)) (pairs (take i xs) (take i ns)) (a ∷ b ∷ []) here
    ∙ ap (sets l₀ (2 * f)) (sym (pairs_one_more i xs ns h (omega arith)))
    ∙ ap (λ (j : ℕ). sets l₀ (2 * f) (pairs (take j xs) (take j ns))) (sym (add-one i))

-- ---- the cells drawn so far

-- a loop over a list of kind k is at the rest of it: c cells of f sides stand in the two tables
pub record Drawn (k : ℕ) (ts fs gs rest : List ℕ) (c f : ℕ) : Type 0 where
  pub done : List Cell
  pub passed : Passed k ts rest c f done
  pub faces_room : length fs ≡ 2 * face_count (cells_of k ts)
  pub firsts_room : length gs ≡ suc (cell_count (cells_of k ts))
  pub faces_stand : take (2 * f) fs ≡ faces_of done
  pub firsts_stand : take (suc c) gs ≡ firsts_from 0 done

pub drawing_begins : (k : ℕ) (ts fs gs : List ℕ) → length fs ≡ 2 * face_count (cells_of k ts) → length gs ≡ suc (cell_count (cells_of k ts)) → Drawn k ts fs (set gs 0 0) ts 0 0
unfolding faces_of firsts_from
drawing_begins k ts fs gs h l =
    record {
      done = [];
      passed = passed_nothing k ts;
      faces_room = h;
      firsts_room = length-set gs 0 0 ∙ l;
      faces_stand = refl;
      firsts_stand = take-suc-set gs 0 0 (omega arith);
    }

-- a cell of n corners, which begins xs, is drawn and passed
module _ {k : ℕ} {ts fs gs rest : List ℕ} {c f : ℕ} (d : Drawn k ts fs gs rest c f) (w : is_whole (cut k ts) ≡ true) (xs : List ℕ) {ms ns : List ℕ} (n : ℕ) (room : 2 * n ≤ length xs) (is_ms : ms ≡ take n xs) (is_ns : ns ≡ take n (drop n xs)) where
  pub drawing_goes_on : {f' : ℕ} {rest' : List ℕ} → f' ≡ f + n → Passed k ts rest' (c + 1) f' (d.done ++ (cell_of n xs ∷ [])) → {fs' : List ℕ} → fs' ≡ sets fs (2 * f) (pairs ms ns) → Drawn k ts fs' (set gs (c + 1) f') rest' (c + 1) f'
  unfolding cell_of
  drawing_goes_on {f'} {rest'} is_f p {fs'} is_fs =
      let cell : Cell = cell_of n xs in
      let P : List ℕ = pairs (take n xs) (take n (drop n xs)) in
      let wide : length cell.corners ≡ n = corners_of_cell n xs room in
      let long : length P ≡ 2 * n = length_pairs (take n xs) (take n (drop n xs)) (neighbours_of_cell n xs room ∙ sym wide) ∙ ap (λ (m : ℕ). 2 * m) wide in
      let here : fs' ≡ sets fs (2 * f) P = is_fs ∙ ap₂ (λ (l m : List ℕ). sets fs (2 * f) (pairs l m)) is_ms is_ns in
      let inside : 2 * f' ≤ length fs = omega (arith, d.faces_room, sides_within p w) in
      let so_far : length (take (2 * f) fs) ≡ 2 * f = length-take-le (2 * f) fs (omega arith) in
      let up_to : length (take (2 * f) fs ++ P) ≡ 2 * f' = omega (arith, length-append (take (2 * f) fs) P) in
      let face : 0 + sides_in d.done + length cell.corners ≡ f' = omega (arith, d.passed.sides) in
      record {
        done = d.done ++ (cell ∷ []);
        passed = p;
        faces_room = ap length here ∙ length-sets fs (2 * f) P ∙ d.faces_room;
        firsts_room = length-set gs (c + 1) f' ∙ d.firsts_room;
        faces_stand =
            ap (take (2 * f')) (here ∙ sets-eq P fs (2 * f) (omega arith))
            ∙ take_at (take (2 * f) fs ++ P) (drop (2 * f + length P) fs) (2 * f') up_to
            ∙ ap (λ (l : List ℕ). l ++ P) d.faces_stand
            ∙ sym (faces_with_one_more cell d.done);
        firsts_stand =
            take-suc-set gs (c + 1) f' (omega (arith, d.firsts_room, cells_within p w))
            ∙ ap (λ (j : ℕ). take j gs ++ (f' ∷ [])) (add-one c)
            ∙ ap₂ (λ (l : List ℕ) (j : ℕ). l ++ (j ∷ [])) d.firsts_stand (sym face)
            ∙ sym (firsts_with_one_more cell 0 d.done);
      }

-- three corners and three neighbours, which begin xs, are the one cell that is drawn and passed
pub triangle_drawn : {ts fs gs xs rest : List ℕ} (cell : List ℕ) {ms ns : List ℕ} {c : ℕ} → Drawn triangles ts fs gs xs c (3 * c) → is_whole (cut triangles ts) ≡ true → xs ≡ cell ++ rest → length cell ≡ 6 → ms ≡ take 3 cell → ns ≡ drop 3 cell → {i j : ℕ} → i ≡ c → j ≡ c + 1 → {fs' : List ℕ} → fs' ≡ sets fs (2 * (3 * i)) (pairs ms ns) → Drawn triangles ts fs' (set gs (i + 1) (3 * (i + 1))) rest j (3 * j)
triangle_drawn {ts} {fs} {gs} {xs} {rest} cell {ms} {ns} {c} d w is_xs six is_ms is_ns {i} {j} is_i is_j {fs'} is_fs =
    let fits : 6 ≤ length xs = omega (arith, ap length is_xs, length-append cell rest) in
    let three : length (drop 3 cell) ≡ 3 = omega (arith, length-drop 3 cell) in
    let few : 3 ≤ length cell = omega arith in
    let corners : ms ≡ take 3 xs = is_ms ∙ sym (ap (take 3) is_xs ∙ take-append-le 3 cell rest few) in
    let neighbours : ns ≡ take 3 (drop 3 xs) =
    is_ns ∙ sym (ap (λ (l : List ℕ). take 3 (drop 3 l)) is_xs ∙ ap (take 3) (drop-append-le 3 cell rest few) ∙ take_at (drop 3 cell) rest 3 three) in
    let behind : rest ≡ drop 6 xs = sym (ap (drop 6) is_xs ∙ drop_at cell rest 6 six) in
    let drawn : fs' ≡ sets fs (2 * (3 * c)) (pairs ms ns) = is_fs ∙ ap (λ (k : ℕ). sets fs (2 * (3 * k)) (pairs ms ns)) is_i in
    let more : 3 * (c + 1) ≡ 3 * c + 3 = omega arith in
    rw (is_i, is_j) (drawing_goes_on d w xs 3 fits corners neighbours more (triangle_passed d.passed fits behind more) drawn)

pub drawing_ends : {k : ℕ} {ts fs gs rest : List ℕ} {c f : ℕ} → Drawn k ts fs gs rest c f → length rest ≡ 0 → cut k [] ≡ whole [] → (fs ≡ (cells_of k ts).faces) × (gs ≡ (cells_of k ts).firsts)
unfolding tables
drawing_ends {k} {ts} {fs} {gs} {rest} {c} {f} d h e =
    let same : cells_of k ts ≡ tables d.done = tables_of_cut k ts (all_passed d.passed h e) in
    let cells : cell_count (cells_of k ts) ≡ c = ap cell_count same ∙ cell_count_of d.done ∙ d.passed.cells in
    let sides : face_count (cells_of k ts) ≡ f = ap face_count same ∙ face_count_of d.passed.polygons ∙ d.passed.sides in (
      sym (take_all (2 * f) fs (omega (arith, d.faces_room))) ∙ d.faces_stand ∙ sym (ap (λ (T : Cells). T.faces) same),
      sym (take_all (suc c) gs (omega (arith, d.firsts_room))) ∙ d.firsts_stand ∙ sym (ap (λ (T : Cells). T.firsts) same),
    )

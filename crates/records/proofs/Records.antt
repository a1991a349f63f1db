-- A framed file is exactly its three records, one after the other.
use mathlib.Core.Bool.{true}
use mathlib.Core.List.{List, [], ◌++◌, append_assoc, append-nil}
use mathlib.Core.Path.{◌≡◌, refl, sym, ap, ap₂, ◌∙◌, subst}
use Prim.Native.Nat.{ℕ, ◌+◌, ◌%◌, ◌^◌, ◌<◌, ◌≤◌}
use native.Mathlib.Omega.{arith}
use borrow.Author.Tests.{eq-eqb}
use lib.ListN.{length, get_or, take, drop, length-append, length-drop}
use lib.Seq.{drop-drop, take-add, take_all, length-take-le}
use Rattle.records.specs.Bytes.{bytes, number_at, all_bytes, numbers_at, AllBytes}
use Rattle.records.specs.Record.{record_of, body_length, kind_at, end_of, second, third, is_record, is_cells, framed}
use Rattle.records.proofs.Spelled.{length_bytes, length_record}
use Rattle.records.proofs.Frames.{of_another_kind, of_triangles, of_polygons, Body, OfKind, is_framed}
use Rattle.records.proofs.Frames.OfKind.{triangles, polygons}
use Rattle.records.proofs.There.{above, above_two, above_four, number_there, numbers_there}
use Rattle.records.proofs.Back.{bytes_back}

-- ---- a record that stands at `at` is read

module _ {s : List ℕ} (xs : List ℕ) (kind : ℕ) (body ys : List ℕ) (at : ℕ) (is_s : s ≡ xs ++ (record_of kind body ++ ys)) (is_at : length xs ≡ at) where
  apart : s ≡ xs ++ (bytes 4 (length body) ++ (bytes 2 kind ++ (body ++ ys)))
  unfolding record_of
  apart = is_s ∙ simp append_assoc

  pub length_read : length body < 2 ^ 32 → body_length s at ≡ length body
  length_read h =
      ap (λ (l : List ℕ). number_at 4 l at) apart
      ∙ number_there xs (bytes 2 kind ++ (body ++ ys)) 4 (length body) at is_at (above_four (length body) h)

  pub kind_read : kind < 2 ^ 16 → kind_at s at ≡ kind
  kind_read h =
      let longer : length (xs ++ bytes 4 (length body)) ≡ at + 4 = length-append xs (bytes 4 (length body)) ∙ ap₂ ◌+◌ is_at (length_bytes 4 (length body)) in
      ap (λ (l : List ℕ). number_at 2 l (at + 4)) (apart ∙ sym (append_assoc xs (bytes 4 (length body)) (bytes 2 kind ++ (body ++ ys))))
      ∙ number_there (xs ++ bytes 4 (length body)) (body ++ ys) 2 kind (at + 4) longer (above_two kind h)

  pub numbers_read : (k : ℕ) (ns : List ℕ) → body ≡ all_bytes k ns → ((i : ℕ) → above k (get_or ns i 0) ≡ 0) → numbers_at k s (at + 6) (length ns) ≡ ns
  numbers_read k ns e h =
      let head : List ℕ = bytes 4 (length body) ++ bytes 2 kind in
      let six : length head ≡ 6 = length-append (bytes 4 (length body)) (bytes 2 kind) ∙ ap₂ ◌+◌ (length_bytes 4 (length body)) (length_bytes 2 kind) in
      let longer : length (xs ++ head) ≡ at + 6 = length-append xs head ∙ ap₂ ◌+◌ is_at six in
      let there : s ≡ (xs ++ head) ++ (all_bytes k ns ++ ys) = apart ∙ ap (λ (b : List ℕ). xs ++ (bytes 4 (length body) ++ (bytes 2 kind ++ (b ++ ys)))) e ∙ simp append_assoc in
      ap (λ (l : List ℕ). numbers_at k l (at + 6) (length ns)) there
      ∙ numbers_there (xs ++ head) ys k ns (at + 6) longer h

  pub is_a_record : (size : ℕ) → length body < 2 ^ 32 → kind < 2 ^ 16 → length body % size ≡ 0 → is_record s at kind size ≡ true
  unfolding is_record
  is_a_record size h l m =
      let a : kind_at s at ≡ kind = kind_read l in
      let b : body_length s at % size ≡ 0 = ap (λ (n : ℕ). n % size) (length_read h) ∙ m in
      simp (eq-eqb _ _ a, eq-eqb _ _ b)

  pub end_read : length body < 2 ^ 32 → end_of s at ≡ at + 6 + length body
  unfolding end_of
  end_read h = ap (λ (n : ℕ). at + 6 + n) (length_read h)

-- ---- three records are framed

module _ (k : ℕ) (a b c : List ℕ) where
  abbrev pub three : List ℕ
  three = record_of 1 a ++ (record_of k b ++ record_of 3 c)

  pub as_third : three ≡ (record_of 1 a ++ record_of k b) ++ (record_of 3 c ++ [])
  as_third = sym (append_assoc (record_of 1 a) (record_of k b) (record_of 3 c)) ∙ ap (λ (l : List ℕ). (record_of 1 a ++ record_of k b) ++ l) (sym (append-nil (record_of 3 c)))

  module _ (short_a : length a < 2 ^ 32) (short_b : length b < 2 ^ 32) (short_c : length c < 2 ^ 32) where
    second_is : second three ≡ 6 + length a
    second_is = end_read [] 1 a (record_of k b ++ record_of 3 c) 0 refl refl short_a ∙ omega arith

    pub at_second : length (record_of 1 a) ≡ second three
    at_second = length_record 1 a ∙ sym second_is

    third_is : third three ≡ second three + 6 + length b
    third_is = end_read (record_of 1 a) k b (record_of 3 c) (second three) refl at_second short_b

    pub at_third : length (record_of 1 a ++ record_of k b) ≡ third three
    at_third = length-append (record_of 1 a) (record_of k b) ∙ ap₂ ◌+◌ at_second (length_record k b) ∙ omega (arith, third_is)

    end_is : end_of three (third three) ≡ length three
    end_is =
        let e : end_of three (third three) ≡ third three + 6 + length c = end_read (record_of 1 a ++ record_of k b) 3 c [] (third three) as_third at_third short_c in
        let x = length_record 1 a in
        let y = length_record k b in
        let z = length_record 3 c in
        let l : length three ≡ length (record_of 1 a) + (length (record_of k b) + length (record_of 3 c)) = simp length-append in
        let u = second_is in
        let v = third_is in
        omega arith

    cells_are_read : OfKind k (length b) → is_cells three (second three) ≡ true
    cells_are_read (triangles e m) =
        let one = is_a_record (record_of 1 a) k b (record_of 3 c) (second three) refl at_second 12 short_b (omega arith) m in
        sym (of_triangles three (second three) (sym (subst (λ (j : ℕ). is_record three (second three) j 12 ≡ true) e one)) refl)
    cells_are_read (polygons e m) =
        let kind = kind_read (record_of 1 a) k b (record_of 3 c) (second three) refl at_second (omega arith) in
        let one = is_a_record (record_of 1 a) k b (record_of 3 c) (second three) refl at_second 2 short_b (omega arith) m in
        sym
        (of_polygons three (second three) (of_another_kind three (second three) 2 12 (sym kind) (λ w. omega arith)) refl
        (sym (subst (λ (j : ℕ). is_record three (second three) j 2 ≡ true) e one)))

    pub three_records_are_framed : length a % 8 ≡ 0 → OfKind k (length b) → length c % 2 ≡ 0 → framed three ≡ true
    unfolding framed
    three_records_are_framed i j l =
        let first : is_record three 0 1 8 ≡ true = is_a_record [] 1 a (record_of k b ++ record_of 3 c) 0 refl refl 8 short_a (omega arith) i in
        let last : is_record three (third three) 3 2 ≡ true = is_a_record (record_of 1 a ++ record_of k b) 3 c [] (third three) as_third at_third 2 short_c (omega arith) l in
        simp (eq-eqb _ _ end_is, first, cells_are_read j, last)

-- ---- and a framed file is three records

pieces : (s : List ℕ) (i j at : ℕ) → take i (drop at s) ++ take j (drop (at + i) s) ≡ take (i + j) (drop at s)
pieces s i j at = ap (λ (l : List ℕ). take i (drop at s) ++ take j l) (sym (drop-drop i at s)) ∙ sym (take-add i j (drop at s))

-- the body of the record that begins at `at`
abbrev pub body_of : List ℕ → ℕ → List ℕ
body_of s at = take (body_length s at) (drop (at + 6) s)

module _ (s : List ℕ) (all : AllBytes s) where
  record_back : {at end kind size : ℕ} → Body s at end kind size → end ≤ length s → record_of kind (body_of s at) ≡ take (6 + body_length s at) (drop at s)
  unfolding record_of
  record_back {at} {end} {kind} b h =
      let e = b.ends in
      let n : ℕ = body_length s at in
      let full : length (body_of s at) ≡ body_length s at = length-take-le (body_length s at) (drop (at + 6) s) (omega (arith, length-drop (at + 6) s)) in
      let six : at + 6 ≡ at + 4 + 2 = omega arith in
      let whole : 4 + (2 + n) ≡ 6 + n = omega arith in
      ap₂ (λ (x y : List ℕ). x ++ (y ++ body_of s at))
      (ap (bytes 4) full ∙ bytes_back s all 4 at (omega arith))
      (ap (bytes 2) (sym b.of_kind) ∙ bytes_back s all 2 (at + 4) (omega arith))
      ∙ ap (λ (j : ℕ). take 4 (drop at s) ++ (take 2 (drop (at + 4) s) ++ take n (drop j s))) six
      ∙ ap (λ (l : List ℕ). take 4 (drop at s) ++ l) (pieces s 2 n (at + 4))
      ∙ pieces s 4 (2 + n) at
      ∙ ap (λ (j : ℕ). take j (drop at s)) whole

  pub framed_is_three_records : framed s ≡ true → s ≡ three (kind_at s (second s)) (body_of s 0) (body_of s (second s)) (body_of s (third s))
  framed_is_three_records h =
      let f = is_framed s h in
      let x = f.corners.ends in
      let y = f.cells.ends in
      let z = f.doors.ends in
      let a : ℕ = 6 + body_length s 0 in
      let b : ℕ = 6 + body_length s (second s) in
      let c : ℕ = 6 + body_length s (third s) in
      let at_a : second s ≡ 0 + a = omega arith in
      let at_b : third s ≡ second s + b = omega arith in
      let back =
      ap₂ (λ (u v : List ℕ). u ++ v)
      (record_back f.corners (omega arith))
      (ap₂ (λ (u v : List ℕ). u ++ v) (record_back f.cells (omega arith)) (record_back f.doors (omega arith)))
      in
      sym
      (back
      ∙ ap (λ (j : ℕ). take a (drop 0 s) ++ (take b (drop (second s) s) ++ take c (drop j s))) at_b
      ∙ ap (λ (l : List ℕ). take a (drop 0 s) ++ l) (pieces s b c (second s))
      ∙ ap (λ (j : ℕ). take a (drop 0 s) ++ take (b + c) (drop j s)) at_a
      ∙ pieces s a (b + c) 0
      ∙ take_all (a + (b + c)) s (omega arith))

-- The lists of the file of accepted lists are those lists.
use mathlib.Core.Bool.{true}
use mathlib.Core.List.{List, [], ◌++◌, map}
use mathlib.Core.Path.{◌≡◌, refl, ap, ◌∙◌}
use Prim.Native.Nat.{ℕ, ◌+◌, ◌*◌, ◌/◌, ◌^◌, ◌<◌}
use native.Mathlib.Omega.{arith}
use lib.ListN.{length, get_or, length-map, get_or-map}
use lib.IntN.{ℤ, pos, negsuc}
use lib.Signed.{mag}
use Rattle.cells.specs.Cut.{cells_of}
use Rattle.cells.specs.Check.{checked}
use Rattle.cells.specs.Sound.{Sound}
use Rattle.limits.specs.declared.Plan.{Plan}
use Rattle.records.specs.Bytes.{all_bytes, numbers_at, complement, signed}
use Rattle.records.specs.Record.{record_of, corner_record, cell_record, door_record, body_length, second, third, framed}
use Rattle.records.proofs.Spelled.{length_all_bytes}
use Rattle.records.proofs.There.{above, above_two, above_four, all_signed_complements}
use Rattle.records.proofs.Records.{length_read, kind_read, numbers_read, three, at_second, at_third, as_third, three_records_are_framed}
use Rattle.planfile.specs.File.{file_of, corners_in, cells_in, doors_in, kind_in}
use Rattle.planfile.proofs.CellLists.{InTwoBytes, in_a_record, short_kind, numbers_in_two_bytes}
use Rattle.planfile.proofs.Accepts.{accepted_is_whole, accepted_sound, small}
use Rattle.planfile.proofs.Widths.{coordinate_in_width, face_in_width, door_in_width}
use Rattle.std.specs.Prelude.{Ok}

complement_small : (z : ℤ) → mag z < 2 ^ 31 → complement z < 2 ^ 32
complement_small (pos n) h = omega arith
complement_small (negsuc n) h = omega arith

module _ (k : ℕ) (cs : List ℤ) (ts ds : List ℕ) {p : Plan} (ok : checked k cs ts ds ≡ Ok p) where
  abbrev a : List ℕ
  a = all_bytes 4 (map complement cs)

  abbrev b : List ℕ
  b = all_bytes 2 ts

  abbrev c : List ℕ
  c = all_bytes 2 ds

  is_three : file_of k cs ts ds ≡ three k a b c
  unfolding file_of corner_record cell_record door_record
  is_three = refl

  long_a : length a ≡ 4 * length cs
  long_a = length_all_bytes 4 (map complement cs) ∙ ap (λ (n : ℕ). 4 * n) (length-map cs complement)

  known : Sound cs (cells_of k ts) ds
  known = accepted_sound k cs ts ds ok

  cells_in_two_bytes : InTwoBytes ts
  cells_in_two_bytes = numbers_in_two_bytes (accepted_is_whole k cs ts ds ok) (face_in_width known)

  short_a : length a < 2 ^ 32
  short_a = let l = long_a in omega (arith, small k cs ts ds ok)

  short_b : length b < 2 ^ 32
  short_b = omega (arith, length_all_bytes 2 ts, small k cs ts ds ok)

  short_c : length c < 2 ^ 32
  short_c = omega (arith, length_all_bytes 2 ds, small k cs ts ds ok)

  pub the_file_is_framed : framed (file_of k cs ts ds) ≡ true
  the_file_is_framed =
      let even = known.whole_corners in
      let l = long_a in
      ap framed is_three
      ∙ three_records_are_framed k a b c short_a short_b short_c (omega arith) (in_a_record (length_all_bytes 2 ts) (accepted_is_whole k cs ts ds ok)) (omega (arith, length_all_bytes 2 ds))

  pub kind_read_back : kind_in (file_of k cs ts ds) ≡ k
  kind_read_back =
      ap kind_in is_three
      ∙ kind_read (record_of 1 a) k b (record_of 3 c) (second (three k a b c)) refl (at_second k a b c short_a short_b short_c) (short_kind (accepted_is_whole k cs ts ds ok))

  pub corners_read_back : corners_in (file_of k cs ts ds) ≡ cs
  unfolding corners_in
  corners_read_back =
      let n : body_length (three k a b c) 0 ≡ 4 * length cs = length_read [] 1 a (record_of k b ++ record_of 3 c) 0 refl refl short_a ∙ long_a in
      let m : body_length (three k a b c) 0 / 4 ≡ length (map complement cs) = let l = length-map cs complement in omega arith in
      let small : (i : ℕ) → above 4 (get_or (map complement cs) i 0) ≡ 0 =
      λ i. ap (above 4) (get_or-map complement cs i (pos 0)) ∙ above_four _ (complement_small (get_or cs i (pos 0)) (coordinate_in_width known i))
      in
      ap corners_in is_three
      ∙ ap (λ (j : ℕ). map signed (numbers_at 4 (three k a b c) 6 j)) m
      ∙ ap (map signed) (numbers_read [] 1 a (record_of k b ++ record_of 3 c) 0 refl refl 4 (map complement cs) refl small)
      ∙ all_signed_complements cs (coordinate_in_width known)

  pub cells_read_back : cells_in (file_of k cs ts ds) ≡ ts
  unfolding cells_in
  cells_read_back =
      let n : body_length (three k a b c) (second (three k a b c)) ≡ 2 * length ts = length_read (record_of 1 a) k b (record_of 3 c) (second (three k a b c)) refl (at_second k a b c short_a short_b short_c) short_b ∙ length_all_bytes 2 ts in
      let m : body_length (three k a b c) (second (three k a b c)) / 2 ≡ length ts = omega arith in
      ap cells_in is_three
      ∙ ap (numbers_at 2 (three k a b c) (second (three k a b c) + 6)) m
      ∙ numbers_read (record_of 1 a) k b (record_of 3 c) (second (three k a b c)) refl (at_second k a b c short_a short_b short_c) 2 ts refl (λ i. above_two _ (cells_in_two_bytes i))

  pub doors_read_back : doors_in (file_of k cs ts ds) ≡ ds
  unfolding doors_in
  doors_read_back =
      let n : body_length (three k a b c) (third (three k a b c)) ≡ 2 * length ds = length_read (record_of 1 a ++ record_of k b) 3 c [] (third (three k a b c)) (as_third k a b c) (at_third k a b c short_a short_b short_c) short_c ∙ length_all_bytes 2 ds in
      let m : body_length (three k a b c) (third (three k a b c)) / 2 ≡ length ds = omega arith in
      ap doors_in is_three
      ∙ ap (numbers_at 2 (three k a b c) (third (three k a b c) + 6)) m
      ∙ numbers_read (record_of 1 a ++ record_of k b) 3 c [] (third (three k a b c)) (as_third k a b c) (at_third k a b c short_a short_b short_c) 2 ds refl (λ i. above_two _ (door_in_width known i))

-- The bytes of the file of a framed file's lists are that file's.
use mathlib.Core.Bool.{true}
use mathlib.Core.List.{List, ◌++◌}
use mathlib.Core.Path.{◌≡◌, sym, ap, ap₂, ◌∙◌}
use Prim.Native.Nat.{ℕ, ◌+◌, ◌*◌, ◌/◌}
use native.Mathlib.Omega.{arith}
use lib.ListN.{take, drop}
use Rattle.records.specs.Bytes.{all_bytes, AllBytes}
use Rattle.records.specs.Record.{record_of, corner_record, cell_record, door_record, body_length, second, third, framed}
use Rattle.records.proofs.Frames.{is_framed}
use Rattle.records.proofs.Back.{all_bytes_back, complements_back}
use Rattle.records.proofs.Records.{body_of, framed_is_three_records}
use Rattle.planfile.specs.File.{file_of, corners_in, cells_in, doors_in, kind_in}

module _ (s : List ℕ) (all : AllBytes s) (h : framed s ≡ true) where
  corners_back : corner_record (corners_in s) ≡ record_of 1 (body_of s 0)
  unfolding corner_record corners_in
  corners_back =
      let f = is_framed s h in
      let e = f.corners.ends in
      let y = f.cells.ends in
      let z = f.doors.ends in
      let whole : 4 * (body_length s 0 / 4) ≡ body_length s 0 = let m = f.corners.multiple in omega arith in
      ap (λ (ns : List ℕ). record_of 1 (all_bytes 4 ns)) (complements_back s all 6 (body_length s 0 / 4))
      ∙ ap (record_of 1) (all_bytes_back s all 4 6 (body_length s 0 / 4) (omega arith))
      ∙ ap (λ (n : ℕ). record_of 1 (take n (drop 6 s))) whole

  cells_back : cell_record (kind_in s) (cells_in s) ≡ record_of (kind_in s) (body_of s (second s))
  unfolding cell_record cells_in
  cells_back =
      let f = is_framed s h in
      let y = f.cells.ends in
      let z = f.doors.ends in
      let whole : 2 * (body_length s (second s) / 2) ≡ body_length s (second s) = let m = f.cells.multiple in omega arith in
      ap (record_of (kind_in s)) (all_bytes_back s all 2 (second s + 6) (body_length s (second s) / 2) (omega arith))
      ∙ ap (λ (n : ℕ). record_of (kind_in s) (take n (drop (second s + 6) s))) whole

  doors_back : door_record (doors_in s) ≡ record_of 3 (body_of s (third s))
  unfolding door_record doors_in
  doors_back =
      let f = is_framed s h in
      let z = f.doors.ends in
      let whole : 2 * (body_length s (third s) / 2) ≡ body_length s (third s) = let m = f.doors.multiple in omega arith in
      ap (record_of 3) (all_bytes_back s all 2 (third s + 6) (body_length s (third s) / 2) (omega arith))
      ∙ ap (λ (n : ℕ). record_of 3 (take n (drop (third s + 6) s))) whole

  -- the one file of the lists of a framed file is that file
  pub the_same_bytes : file_of (kind_in s) (corners_in s) (cells_in s) (doors_in s) ≡ s
  unfolding file_of
  the_same_bytes =
      ap₂ (λ (u v : List ℕ). u ++ v) corners_back (ap₂ (λ (u v : List ℕ). u ++ v) cells_back doors_back)
      ∙ sym (framed_is_three_records s all h)

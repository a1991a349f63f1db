-- The round trips (document 01, "The plan file"): reading the file of lists returns those lists, writing what was read returns the same
-- bytes, and the reader accepts exactly what the writer can write. And no second reply: each promise is one equation.
use mathlib.Core.Bool.{true, false, not, ◌&&◌}
use mathlib.Core.List.{List, map}
use mathlib.Core.Path.{◌≡◌, refl, sym, ap, ap₂, ◌∙◌}
use Prim.Native.Nat.{ℕ, ◌≤◌}
use native.Mathlib.Omega.{arith}
use borrow.Author.Tests.{not-false, le-leb, leb-true}
use lib.Dec.{leb}
use lib.ListN.{length, take, drop}
use lib.Seq.{sets}
use lib.IntN.{ℤ}
use Rattle.exact.proofs.Lent.{Leaves, first_is_new, rest_is_kept, written_leaves}
use Rattle.exact.proofs.Truth.{both_true}
use Rattle.cells.specs.Check.{checked}
use Rattle.limits.specs.declared.Plan.{Plan}
use Rattle.limits.specs.declared.Refusal.TheVariants.{Frame}
use Rattle.cells.proofs.Accepted.{passed}
use Rattle.records.specs.Bytes.{complement, AllBytes}
use Rattle.records.specs.Record.{corner_record, cell_record, door_record, framed}
use Rattle.records.proofs.Back.{append_is_bytes, record_is_bytes, all_is_bytes}
use Rattle.planfile.specs.File.{file_of, corners_in, cells_in, doors_in, kind_in}
use Rattle.planfile.specs.Calls.{given_room, written, has_room, lists_checked, file_checked, told, read_reply, lists_left, read}
use Rattle.planfile.proofs.Accepts.{roomed, had_room, was_told}
use Rattle.planfile.proofs.Writes.{all_written}
use Rattle.planfile.proofs.Decodes.{by_its_lists}
use Rattle.planfile.proofs.ListsBack.{the_file_is_framed, kind_read_back, corners_read_back, cells_read_back, doors_read_back}
use Rattle.planfile.proofs.BytesBack.{the_same_bytes}
use Rattle.planfile.specs.declared.ReadPlan.{ReadPlan}
use Rattle.limits.specs.declared.Refusal.{Refusal}
use Rattle.std.specs.Prelude.{Ok, Result}

-- ---- reading what was written

module _ (k : ℕ) (cs : List ℤ) (ts ds : List ℕ) {p : Plan} (ok : checked k cs ts ds ≡ Ok p) where
  abbrev file : List ℕ
  file = file_of k cs ts ds

  -- the file of accepted lists is accepted
  pub the_file_is_accepted : (n m l : ℕ) → length cs ≤ n → length ts ≤ m → length ds ≤ l → file_checked (file_of k cs ts ds) n m l ≡ Ok p
  the_file_is_accepted n m l h i j =
      let room : has_room cs ts ds n m l ≡ true = simp (le-leb _ _ h, le-leb _ _ i, le-leb _ _ j) in
      by_its_lists file n m l (the_file_is_framed k cs ts ds ok)
      ∙ ap₂ (λ (j : ℕ) (x : List ℤ). lists_checked j x (cells_in file) (doors_in file) n m l) (kind_read_back k cs ts ds ok) (corners_read_back k cs ts ds ok)
      ∙ ap₂ (λ (y z : List ℕ). lists_checked k cs y z n m l) (cells_read_back k cs ts ds ok) (doors_read_back k cs ts ds ok)
      ∙ ap₂ given_room room ok

  -- with the same counts, the kind that was written, and its list's length
  pub the_file_is_told : (n m l : ℕ) → length cs ≤ n → length ts ≤ m → length ds ≤ l → read_reply (file_of k cs ts ds) n m l ≡ Ok (record { counts = p; kind = k; numbers = length ts })
  the_file_is_told n m l h i j =
      ap (told (kind_in file) (length (cells_in file))) (the_file_is_accepted n m l h i j)
      ∙ ap₂ (λ (j : ℕ) (y : List ℕ). Ok (record { counts = p; kind = j; numbers = length y })) (kind_read_back k cs ts ds ok) (cells_read_back k cs ts ds ok)

  -- reading the file of lists returns those lists, and their kind
  pub reading_what_was_written : (corners : List ℤ) (cells doors : List ℕ) → length cs ≤ length corners → length ts ≤ length cells → length ds ≤ length doors → read (file_of k cs ts ds) corners cells doors ≡ (Ok (record { counts = p; kind = k; numbers = length ts }), (sets corners 0 cs, (sets cells 0 ts, sets doors 0 ds)))
  reading_what_was_written corners cells doors h i j =
      ap₂ (λ (r : Result ReadPlan Refusal) (q : Result Plan Refusal). (r, lists_left q (corners_in file) (cells_in file) (doors_in file) corners cells doors))
      (the_file_is_told (length corners) (length cells) (length doors) h i j)
      (the_file_is_accepted (length corners) (length cells) (length doors) h i j)
      ∙ ap (λ (x : List ℤ). (Ok (record { counts = p; kind = k; numbers = length ts }), lists_left (Ok p) x (cells_in file) (doors_in file) corners cells doors)) (corners_read_back k cs ts ds ok)
      ∙ ap₂ (λ (y z : List ℕ). (Ok (record { counts = p; kind = k; numbers = length ts }), lists_left (Ok p) cs y z corners cells doors)) (cells_read_back k cs ts ds ok) (doors_read_back k cs ts ds ok)

-- ---- the file in the lent bytes

module _ (k : ℕ) (cs : List ℤ) (ts ds : List ℕ) where
  -- each number of the file is a byte
  pub the_file_is_bytes : AllBytes (file_of k cs ts ds)
  unfolding file_of corner_record cell_record door_record
  the_file_is_bytes =
      append_is_bytes (record_is_bytes 1 (all_is_bytes 4 (map complement cs)))
      (append_is_bytes (record_is_bytes k (all_is_bytes 2 ts)) (record_is_bytes 3 (all_is_bytes 2 ds)))

  module _ (file : List ℕ) (room : length (file_of k cs ts ds) ≤ length file) where
    -- the first bytes that the writer leaves are the file
    pub the_first_bytes_are_the_file : take (length (file_of k cs ts ds)) (sets file 0 (file_of k cs ts ds)) ≡ file_of k cs ts ds
    the_first_bytes_are_the_file = first_is_new file (file_of k cs ts ds) (length (file_of k cs ts ds)) refl room

    -- and those beyond keep their values
    pub the_bytes_beyond_are_kept : drop (length (file_of k cs ts ds)) (sets file 0 (file_of k cs ts ds)) ≡ drop (length (file_of k cs ts ds)) file
    the_bytes_beyond_are_kept = rest_is_kept file (file_of k cs ts ds) (length (file_of k cs ts ds)) refl room

-- ---- the lists in the lent memory

-- the lists of a file that the reader accepts stand first in the lent lists, and what lies beyond them keeps its values
pub the_first_numbers_are_the_lists : (s : List ℕ) (corners : List ℤ) (cells doors : List ℕ) {p : Plan} {k j : ℕ} → (read s corners cells doors).0 ≡ Ok (record { counts = p; kind = k; numbers = j }) → Leaves corners (corners_in s) (read s corners cells doors).1.0 × (Leaves cells (cells_in s) (read s corners cells doors).1.1.0 × Leaves doors (doors_in s) (read s corners cells doors).1.1.1)
unfolding file_checked
the_first_numbers_are_the_lists s corners cells doors e =
    let ok = (was_told (kind_in s) (length (cells_in s)) (file_checked s (length corners) (length cells) (length doors)) e).0 in
    let lists = (passed (not (framed s)) Frame (lists_checked (kind_in s) (corners_in s) (cells_in s) (doors_in s) (length corners) (length cells) (length doors)) ok).1 in
    let room = had_room (has_room (corners_in s) (cells_in s) (doors_in s) (length corners) (length cells) (length doors)) _ lists in
    let (two, third) = both_true (leb (length (corners_in s)) (length corners) && leb (length (cells_in s)) (length cells)) (leb (length (doors_in s)) (length doors)) room in
    let (first, second) = both_true (leb (length (corners_in s)) (length corners)) (leb (length (cells_in s)) (length cells)) two in
    rw ok (written_leaves corners (corners_in s) (leb-true _ _ first), (written_leaves cells (cells_in s) (leb-true _ _ second), written_leaves doors (doors_in s) (leb-true _ _ third)))

-- ---- writing what was read

module _ (s : List ℕ) (all : AllBytes s) (n m l : ℕ) {p : Plan} {k j : ℕ} (ok : read_reply s n m l ≡ Ok (record { counts = p; kind = k; numbers = j })) where
  is_told : (file_checked s n m l ≡ Ok p) × ((kind_in s ≡ k) × (length (cells_in s) ≡ j))
  is_told = was_told (kind_in s) (length (cells_in s)) (file_checked s n m l) ok

  tests : (not (framed s) ≡ false) × (lists_checked (kind_in s) (corners_in s) (cells_in s) (doors_in s) n m l ≡ Ok p)
  unfolding file_checked
  tests = passed (not (framed s)) Frame (lists_checked (kind_in s) (corners_in s) (cells_in s) (doors_in s) n m l) is_told.0

  -- the writer accepts the lists of a file that the reader accepts, with the kind that the reader told
  pub the_lists_are_accepted : checked k (corners_in s) (cells_in s) (doors_in s) ≡ Ok p
  the_lists_are_accepted =
      ap (λ (i : ℕ). checked i (corners_in s) (cells_in s) (doors_in s)) (sym is_told.1.0)
      ∙ roomed (has_room (corners_in s) (cells_in s) (doors_in s) n m l) (checked (kind_in s) (corners_in s) (cells_in s) (doors_in s)) tests.1

  -- and their file is the file that was read
  pub the_same_file : file_of k (corners_in s) (cells_in s) (doors_in s) ≡ s
  the_same_file =
      ap (λ (i : ℕ). file_of i (corners_in s) (cells_in s) (doors_in s)) (sym is_told.1.0)
      ∙ the_same_bytes s all (not-false (framed s) tests.0)

  -- writing what was read returns the same bytes
  pub writing_what_was_read : (file : List ℕ) → length s ≤ length file → written k (corners_in s) (cells_in s) (doors_in s) file ≡ (Ok p, sets file 0 s)
  writing_what_was_read file h =
      let long = ap length the_same_file in
      sym (all_written k (corners_in s) (cells_in s) (doors_in s) file (sym the_lists_are_accepted) refl refl (omega arith) (ap (sets file 0) (sym the_same_file)))

-- ---- the reader accepts exactly what the writer can write

-- the writer accepts some lists, j numbers of cells in a list of kind k, and this is their file
pub record Writable (s : List ℕ) (p : Plan) (k j : ℕ) : Type 0 where
  pub corners : List ℤ
  pub cells : List ℕ
  pub doors : List ℕ
  pub accepted : checked k corners cells doors ≡ Ok p
  pub long : length cells ≡ j
  pub is_file : s ≡ file_of k corners cells doors

pub the_reader_accepts_only_what_can_be_written : (s : List ℕ) (n m l : ℕ) {p : Plan} {k j : ℕ} → AllBytes s → read_reply s n m l ≡ Ok (record { counts = p; kind = k; numbers = j }) → Writable s p k j
the_reader_accepts_only_what_can_be_written s n m l all ok =
    record {
      corners = corners_in s;
      cells = cells_in s;
      doors = doors_in s;
      accepted = the_lists_are_accepted s all n m l ok;
      long = (is_told s all n m l ok).1.1;
      is_file = sym (the_same_file s all n m l ok);
    }

pub the_reader_accepts_all_that_can_be_written : {s : List ℕ} {p : Plan} {k j : ℕ} (w : Writable s p k j) (n m l : ℕ) → length w.corners ≤ n → length w.cells ≤ m → length w.doors ≤ l → read_reply s n m l ≡ Ok (record { counts = p; kind = k; numbers = j })
the_reader_accepts_all_that_can_be_written {p = p} {k = k} w n m l g h i =
    ap (λ (s : List ℕ). read_reply s n m l) w.is_file
    ∙ the_file_is_told k w.corners w.cells w.doors w.accepted n m l g h i
    ∙ ap (λ (n : ℕ). Ok (record { counts = p; kind = k; numbers = n })) w.long

-- ---- no second reply

pub write_has_no_second_reply : (k : ℕ) (cs : List ℤ) (ts ds file : List ℕ) {p q : Result Plan Refusal × List ℕ} → p ≡ written k cs ts ds file → q ≡ written k cs ts ds file → p ≡ q
write_has_no_second_reply k cs ts ds file e f = e ∙ sym f

pub read_has_no_second_reply : (s : List ℕ) (corners : List ℤ) (cells doors : List ℕ) {p q : Result ReadPlan Refusal × (List ℤ × (List ℕ × List ℕ))} → p ≡ read s corners cells doors → q ≡ read s corners cells doors → p ≡ q
read_has_no_second_reply s corners cells doors e f = e ∙ sym f

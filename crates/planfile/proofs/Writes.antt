-- The writer, way out by way out: what was found, and the reply with the file that is left.
use mathlib.Core.List.{List, ◌++◌, append_assoc}
use mathlib.Core.Path.{◌≡◌, refl, sym, ap, ap₂, ◌∙◌}
use Prim.Native.Nat.{ℕ, ◌+◌, ◌*◌, ◌<◌, ◌≤◌}
use native.Mathlib.Omega.{arith}
use borrow.Author.Tests.{le-leb, lt-leb}
use lib.Dec.{leb}
use lib.ListN.{length, length-append}
use lib.Seq.{sets}
use lib.IntN.{ℤ}
use Rattle.cells.specs.Check.{checked}
use Rattle.limits.specs.declared.Plan.{Plan}
use Rattle.limits.specs.declared.Refusal.{Refusal}
use Rattle.limits.specs.declared.Refusal.TheVariants.{Room}
use Rattle.records.specs.Bytes.{all_bytes}
use Rattle.records.specs.Record.{record_of, corner_record, cell_record, door_record}
use Rattle.records.proofs.Spelled.{length_corner_record, length_number_record}
use Rattle.exact.proofs.Lent.{sets_then}
use Rattle.planfile.specs.File.{file_of}
use Rattle.planfile.specs.Calls.{given_room, left_by, written_reply, written}
use Rattle.planfile.proofs.Accepts.{refused_stays}
use Rattle.std.specs.Prelude.{Err, Ok, Result}

-- ---- lengths

pub length_file : (k : ℕ) (cs : List ℤ) (ts ds : List ℕ) → length (file_of k cs ts ds) ≡ 18 + 4 * length cs + 2 * length ts + 2 * length ds
unfolding file_of cell_record door_record
length_file k cs ts ds =
    let a : length (corner_record cs) ≡ 6 + 4 * length cs = length_corner_record cs in
    let b : length (record_of k (all_bytes 2 ts)) ≡ 6 + 2 * length ts = length_number_record k ts in
    let c : length (record_of 3 (all_bytes 2 ds)) ≡ 6 + 2 * length ds = length_number_record 3 ds in
    simp length-append (omega arith)

-- ---- the replies

module _ (k : ℕ) (cs : List ℤ) (ts ds file : List ℕ) where
  told : {q : Result Plan Refusal} {l : List ℕ} → written_reply k cs ts ds (length file) ≡ q → l ≡ left_by q file (file_of k cs ts ds) → (q, l) ≡ written k cs ts ds file
  told {q} e f =
      ap (λ (l : List ℕ). (q, l)) f ∙ sym (ap (λ (p : Result Plan Refusal). (p, left_by p file (file_of k cs ts ds))) e)

  module _ {reply : Result Plan Refusal} (is_reply : reply ≡ checked k cs ts ds) where
    pub not_accepted : {r : Refusal} → reply ≡ Err r → (Err r, file) ≡ written k cs ts ds file
    unfolding written_reply
    not_accepted {r} e =
        let refused : checked k cs ts ds ≡ Err r = sym is_reply ∙ e in
        told (ap (given_room (leb (length (file_of k cs ts ds)) (length file))) refused ∙ refused_stays (leb (length (file_of k cs ts ds)) (length file)) r) refl

    module _ {p : Plan} (e : reply ≡ Ok p) where
      accepted : checked k cs ts ds ≡ Ok p
      accepted = sym is_reply ∙ e

      pub no_room : {n : ℕ} → n ≡ length (file_of k cs ts ds) → length file < n → (Err Room, file) ≡ written k cs ts ds file
      unfolding written_reply
      no_room is_n h =
          told (ap₂ given_room (lt-leb (length (file_of k cs ts ds)) (length file) (omega arith)) accepted) refl

      pub all_written : {n : ℕ} → n ≡ length (file_of k cs ts ds) → n ≤ length file → {l : List ℕ} → l ≡ sets file 0 (file_of k cs ts ds) → (Ok p, l) ≡ written k cs ts ds file
      unfolding written_reply
      all_written is_n h {l} is_l =
          told (ap₂ given_room (le-leb (length (file_of k cs ts ds)) (length file) (omega arith)) accepted) is_l

-- the three records, by what was left by each
pub records_put : (k : ℕ) (cs : List ℤ) (ts ds l : List ℕ) {b c : ℕ} → b ≡ 6 + 4 * length cs → c ≡ b + 6 + 2 * length ts → {l₁ l₂ l₃ : List ℕ} → l₁ ≡ sets l 0 (corner_record cs) → l₂ ≡ sets l₁ b (record_of k (all_bytes 2 ts)) → l₃ ≡ sets l₂ c (record_of 3 (all_bytes 2 ds)) → l₃ ≡ sets l 0 (file_of k cs ts ds)
unfolding file_of cell_record door_record
records_put k cs ts ds l {b} {c} is_b is_c {l₁} {l₂} {l₃} e f g =
    let x : length (corner_record cs) ≡ 6 + 4 * length cs = length_corner_record cs in
    let y : length (record_of k (all_bytes 2 ts)) ≡ 6 + 2 * length ts = length_number_record k ts in
    let two : l₂ ≡ sets l 0 (corner_record cs ++ record_of k (all_bytes 2 ts)) =
    f
    ∙ ap (λ (m : List ℕ). sets m b (record_of k (all_bytes 2 ts))) e
    ∙ sets_then l 0 b (corner_record cs) (record_of k (all_bytes 2 ts)) (omega arith)
    in
    let z : length (corner_record cs ++ record_of k (all_bytes 2 ts)) ≡ length (corner_record cs) + length (record_of k (all_bytes 2 ts)) = length-append (corner_record cs) (record_of k (all_bytes 2 ts)) in
    g
    ∙ ap (λ (m : List ℕ). sets m c (record_of 3 (all_bytes 2 ds))) two
    ∙ sets_then l 0 c (corner_record cs ++ record_of k (all_bytes 2 ts)) (record_of 3 (all_bytes 2 ds)) (omega arith)
    ∙ ap (sets l 0) (append_assoc (corner_record cs) (record_of k (all_bytes 2 ts)) (record_of 3 (all_bytes 2 ds)))

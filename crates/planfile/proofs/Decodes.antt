-- The reader, way out by way out: the lists that are decoded, and the reply with the lists that are left.
use mathlib.Core.Bool.{Bool, true, false}
use mathlib.Core.List.{List, ◌++◌, map}
use mathlib.Core.Path.{◌≡◌, refl, sym, ap, ap₂, ◌∙◌}
use Prim.Native.Nat.{ℕ, ◌+◌, ◌-◌, ◌*◌, ◌/◌, ◌%◌, ◌≤◌}
use native.Mathlib.Omega.{arith}
use lib.ListN.{length, take, drop, length-map}
use lib.Seq.{length-take-le, length_front, take_at}
use lib.IntN.{ℤ}
use Rattle.std.specs.Prelude.{Option, Some, None}
use Rattle.limits.specs.Limits.{sized}
use Rattle.limits.specs.declared.Refusal.{Refusal}
use Rattle.limits.specs.declared.Refusal.TheVariants.{Frame, Size}
use Rattle.cells.specs.Check.{checked}
use Rattle.checking.proofs.Measures.{whole_in_frame, no_whole_cells, not_in_size, all_counted, refused_likewise, counted_fit}
use Rattle.draw.specs.Counted.{counted}
use Rattle.draw.specs.declared.Sizes.{Sizes}
use Rattle.records.specs.Bytes.{numbers_at, signed}
use Rattle.records.specs.Record.{framed}
use Rattle.records.proofs.Spelled.{length_numbers_at}
use Rattle.planfile.specs.File.{corners_in, cells_in, doors_in, kind_in}
use Rattle.planfile.specs.Calls.{given_room, has_room, lists_checked, file_checked, told, lists_left, read}
use Rattle.planfile.proofs.Accepts.{refused_stays}
use Rattle.planfile.proofs.CellLists.{by_kind, few_numbers}
use Rattle.planfile.proofs.Places.{Places}
use Rattle.limits.specs.declared.Plan.{Plan}
use Rattle.planfile.specs.declared.ReadPlan.{ReadPlan}
use Rattle.std.specs.Prelude.{Err, Result}

-- ---- a list decoded into the beginning of another

module _ {ℓ} {A : Type ℓ} (old : List A) (n : ℕ) (h : n ≤ length old) where
  pub lent : n ≡ length (take n old)
  lent = sym (length-take-le n old h)

  module _ (new : List A) (same : length new ≡ length (take n old)) where
    pub back : n ≤ length (new ++ drop n old)
    back = let e = length_front old new n same in omega arith

    pub shared : n ≡ length (take n (new ++ drop n old))
    shared = sym (length-take-le n (new ++ drop n old) back)

    pub taken : take n (new ++ drop n old) ≡ new
    taken = take_at new (drop n old) n (same ∙ sym lent)

module _ {s : List ℕ} {b c : ℕ} (p : Places s b c) where
  pub corners_fit : (old : List ℤ) → (b - 6) / 4 ≤ length old → 6 + 4 * length (take ((b - 6) / 4) old) ≤ length s
  corners_fit old h = let e = lent old ((b - 6) / 4) h in omega arith

  pub cells_fit : (old : List ℕ) → (c - b - 6) / 2 ≤ length old → b + 6 + 2 * length (take ((c - b - 6) / 2) old) ≤ length s
  cells_fit old h = let e = lent old ((c - b - 6) / 2) h in omega arith

  pub doors_fit : (old : List ℕ) → (length s - c - 6) / 2 ≤ length old → c + 6 + 2 * length (take ((length s - c - 6) / 2) old) ≤ length s
  doors_fit old h = let e = lent old ((length s - c - 6) / 2) h in omega arith

  pub corners_decoded : (old : List ℤ) (h : (b - 6) / 4 ≤ length old) (new : List ℤ) → length new ≡ length (take ((b - 6) / 4) old) → new ≡ map signed (numbers_at 4 s 6 (length (take ((b - 6) / 4) old))) → take ((b - 6) / 4) (new ++ drop ((b - 6) / 4) old) ≡ corners_in s
  corners_decoded old h new same e =
      taken old ((b - 6) / 4) h new same
      ∙ e
      ∙ ap (λ (j : ℕ). map signed (numbers_at 4 s 6 j)) (sym (lent old ((b - 6) / 4) h))
      ∙ sym p.corners

  pub cells_decoded : (old : List ℕ) (h : (c - b - 6) / 2 ≤ length old) (new : List ℕ) → length new ≡ length (take ((c - b - 6) / 2) old) → new ≡ numbers_at 2 s (b + 6) (length (take ((c - b - 6) / 2) old)) → take ((c - b - 6) / 2) (new ++ drop ((c - b - 6) / 2) old) ≡ cells_in s
  cells_decoded old h new same e =
      taken old ((c - b - 6) / 2) h new same ∙ e ∙ ap (numbers_at 2 s (b + 6)) (sym (lent old ((c - b - 6) / 2) h)) ∙ sym p.cells

  pub doors_decoded : (old : List ℕ) (h : (length s - c - 6) / 2 ≤ length old) (new : List ℕ) → length new ≡ length (take ((length s - c - 6) / 2) old) → new ≡ numbers_at 2 s (c + 6) (length (take ((length s - c - 6) / 2) old)) → take ((length s - c - 6) / 2) (new ++ drop ((length s - c - 6) / 2) old) ≡ doors_in s
  doors_decoded old h new same e =
      taken old ((length s - c - 6) / 2) h new same ∙ e ∙ ap (numbers_at 2 s (c + 6)) (sym (lent old ((length s - c - 6) / 2) h)) ∙ sym p.doors

  pub corners_long : length (corners_in s) ≡ (b - 6) / 4
  corners_long = ap length p.corners ∙ length-map (numbers_at 4 s 6 ((b - 6) / 4)) signed ∙ length_numbers_at 4 s 6 ((b - 6) / 4)

  pub cells_long : length (cells_in s) ≡ (c - b - 6) / 2
  cells_long = ap length p.cells ∙ length_numbers_at 2 s (b + 6) ((c - b - 6) / 2)

  pub doors_long : length (doors_in s) ≡ (length s - c - 6) / 2
  doors_long = ap length p.doors ∙ length_numbers_at 2 s (c + 6) ((length s - c - 6) / 2)

-- ---- the replies

-- what is not framed is refused, and what is framed goes by its lists
pub unframed : (s : List ℕ) (n m k : ℕ) → framed s ≡ false → file_checked s n m k ≡ Err Frame
unfolding file_checked
unframed s n m k h = simp h

pub by_its_lists : (s : List ℕ) (n m k : ℕ) → framed s ≡ true → file_checked s n m k ≡ lists_checked (kind_in s) (corners_in s) (cells_in s) (doors_in s) n m k
unfolding file_checked
by_its_lists s n m k h = simp h

module _ (s : List ℕ) (corners : List ℤ) (cells doors : List ℕ) where
  abbrev reply : Result Plan Refusal
  reply = file_checked s (length corners) (length cells) (length doors)

  abbrev room : Bool
  room = has_room (corners_in s) (cells_in s) (doors_in s) (length corners) (length cells) (length doors)

  -- a reply, told, with the lists that it leaves
  replied : {q : Result Plan Refusal} → q ≡ reply → (told (kind_in s) (length (cells_in s)) q, lists_left q (corners_in s) (cells_in s) (doors_in s) corners cells doors) ≡ read s corners cells doors
  replied e =
      ap (λ (q : Result Plan Refusal). (told (kind_in s) (length (cells_in s)) q, lists_left q (corners_in s) (cells_in s) (doors_in s) corners cells doors)) e

  pub not_framed : framed s ≡ false → (Err Frame, (corners, (cells, doors))) ≡ read s corners cells doors
  not_framed h = replied (sym (unframed s (length corners) (length cells) (length doors) h))

  module _ (fr : framed s ≡ true) where
    its_lists : reply ≡ lists_checked (kind_in s) (corners_in s) (cells_in s) (doors_in s) (length corners) (length cells) (length doors)
    its_lists = by_its_lists s (length corners) (length cells) (length doors) fr

    -- what the check refuses is refused, with room or without
    refused : {r : Refusal} → Err r ≡ checked (kind_in s) (corners_in s) (cells_in s) (doors_in s) → (Err r, (corners, (cells, doors))) ≡ read s corners cells doors
    refused {r} e = replied (sym (its_lists ∙ ap (given_room room) (sym e) ∙ refused_stays room r))

    module _ {b c : ℕ} (p : Places s b c) {k : ℕ} (is_k : k ≡ kind_in s) {r : Option Sizes} (is_r : r ≡ counted k (cells_in s)) where
      its_counts : r ≡ counted (kind_in s) (cells_in s)
      its_counts = is_r ∙ ap (λ (j : ℕ). counted j (cells_in s)) is_k

      even_corners : length (corners_in s) % 2 ≡ 0
      even_corners =
          let e = p.eight in
          omega (arith, corners_long p)

      pub not_cut : r ≡ None → (Err Frame, (corners, (cells, doors))) ≡ read s corners cells doors
      not_cut h =
          refused (refused_likewise (kind_in s) (corners_in s) (cells_in s) (doors_in s) (no_whole_cells (kind_in s) (corners_in s) (cells_in s) (doors_in s) even_corners its_counts h) refl)

      module _ {z : Sizes} (w : r ≡ Some z) {q : Bool} (is_q : q ≡ sized ((b - 6) / 4 / 2) z.cells ((length s - c - 6) / 2)) where
        its_size : q ≡ sized (length (corners_in s) / 2) z.cells (length (doors_in s))
        its_size = is_q ∙ ap₂ (λ (i j : ℕ). sized (i / 2) z.cells j) (sym (corners_long p)) (sym (doors_long p))

        pub wrong_size : q ≡ false → (Err Size, (corners, (cells, doors))) ≡ read s corners cells doors
        wrong_size h =
            refused (refused_likewise (kind_in s) (corners_in s) (cells_in s) (doors_in s) (not_in_size (kind_in s) (corners_in s) (cells_in s) (doors_in s) even_corners its_counts w its_size h) refl)

        -- a list of no more cells than a plan may have is not too long to be decoded
        pub few_cells : q ≡ true → (c - b - 6) / 2 ≤ 17 * z.cells
        few_cells h =
            let fit = counted_fit (kind_in s) (corners_in s) (cells_in s) (doors_in s) (all_counted (kind_in s) (corners_in s) (cells_in s) (doors_in s) even_corners its_counts w its_size h) refl in
            omega (arith, fit.cells, cells_long p, few_numbers (by_kind (kind_in s) (cells_in s) (whole_in_frame (kind_in s) (corners_in s) (cells_in s) fit.in_frame)))

    pub lists_read : {k : ℕ} {cs : List ℤ} {ts ds : List ℕ} → k ≡ kind_in s → cs ≡ corners_in s → ts ≡ cells_in s → ds ≡ doors_in s → {m : ℕ} → m ≡ length (cells_in s) → {q : Result Plan Refusal} → q ≡ lists_checked k cs ts ds (length corners) (length cells) (length doors) → {l : List ℤ × (List ℕ × List ℕ)} → l ≡ lists_left q cs ts ds corners cells doors → {r : Result ReadPlan Refusal} → r ≡ told k m q → (r, l) ≡ read s corners cells doors
    lists_read {k} {cs} {ts} {ds} is_k e f g {m} is_m {q} is_q {l} is_l {r} is_r =
        let its = its_lists in
        cc

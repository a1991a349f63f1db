-- Where the records of a framed file lie, and how long its lists are.
use mathlib.Core.Bool.{true}
use mathlib.Core.List.{List, map}
use mathlib.Core.Path.{◌≡◌, sym, ap, subst, ◌∙◌}
use Prim.Native.Nat.{ℕ, ◌+◌, ◌-◌, ◌*◌, ◌/◌, ◌%◌, ◌≤◌}
use native.Mathlib.Omega.{arith}
use lib.ListN.{length}
use Rattle.limits.specs.Limits.{most_corners, most_cells, most_doors, sized}
use Rattle.cells.proofs.Plans.{counts}
use Rattle.records.specs.Bytes.{numbers_at, signed}
use Rattle.records.specs.Record.{body_length, kind_at, end_of, second, third, framed}
use Rattle.records.proofs.Frames.{OfKind, is_framed}
use Rattle.planfile.specs.File.{corners_in, cells_in, doors_in, kind_in}

-- where the second record begins, and the third, as the code has them
pub record Places (s : List ℕ) (b c : ℕ) : Type 0 where
  pub first : 6 ≤ b
  pub next : b + 6 ≤ c
  pub last : c + 6 ≤ length s
  pub eight : (b - 6) % 8 ≡ 0
  pub cells_kind : OfKind (kind_in s) (c - b - 6)
  pub kind : kind_at s b ≡ kind_in s
  pub corners : corners_in s ≡ map signed (numbers_at 4 s 6 ((b - 6) / 4))
  pub cells : cells_in s ≡ numbers_at 2 s (b + 6) ((c - b - 6) / 2)
  pub doors : doors_in s ≡ numbers_at 2 s (c + 6) ((length s - c - 6) / 2)

module _ (s : List ℕ) (fr : framed s ≡ true) where
  pub first_there : 0 + 6 ≤ length s
  first_there =
      let f = is_framed s fr in
      let x = f.corners.ends in
      let y = f.cells.ends in
      let z = f.doors.ends in
      omega arith

  module _ {b : ℕ} (is_b : b ≡ end_of s 0) where
    pub second_there : b + 6 ≤ length s
    second_there =
        let f = is_framed s fr in
        let y = f.cells.ends in
        let z = f.doors.ends in
        omega arith

    module _ {c : ℕ} (is_c : c ≡ end_of s b) where
      pub places : Places s b c
      unfolding corners_in cells_in doors_in
      places =
          let f = is_framed s fr in
          let at_third : c ≡ third s = is_c ∙ ap (end_of s) is_b in
          let x : b ≡ 6 + body_length s 0 = is_b ∙ f.corners.ends ∙ omega arith in
          let y : c ≡ b + 6 + body_length s (second s) = let e = f.cells.ends in omega arith in
          let z : length s ≡ c + 6 + body_length s (third s) = let e = f.doors.ends in omega arith in
          let n : body_length s 0 ≡ b - 6 = omega arith in
          let m : body_length s (second s) ≡ c - b - 6 = omega arith in
          let k : body_length s (third s) ≡ length s - c - 6 = omega arith in
          record {
            first = omega arith;
            next = omega arith;
            last = omega arith;
            eight = ap (λ (j : ℕ). j % 8) (sym n) ∙ f.corners.multiple;
            cells_kind = subst (OfKind (kind_in s)) m f.cells_kind;
            kind = ap (kind_at s) is_b;
            corners = ap (λ (j : ℕ). map signed (numbers_at 4 s 6 (j / 4))) n;
            cells = ap (λ (j : ℕ). numbers_at 2 s (second s + 6) (j / 2)) m ∙ ap (λ (j : ℕ). numbers_at 2 s (j + 6) ((c - b - 6) / 2)) (sym is_b);
            doors = ap (λ (j : ℕ). numbers_at 2 s (third s + 6) (j / 2)) k ∙ ap (λ (j : ℕ). numbers_at 2 s (j + 6) ((length s - c - 6) / 2)) (sym at_third);
          }

-- the lists that are lent for decoding have room
pub record Spaces (s : List ℕ) (b c x y z : ℕ) : Type 0 where
  pub corners : (b - 6) / 4 ≤ x
  pub cells : (c - b - 6) / 2 ≤ y
  pub doors : (length s - c - 6) / 2 ≤ z

pub spaces : {s : List ℕ} {b c x y z : ℕ} (k : ℕ) → Places s b c → sized ((b - 6) / 4 / 2) k ((length s - c - 6) / 2) ≡ true → (c - b - 6) / 2 ≤ 17 * k → 2 * most_corners ≤ x → 17 * most_cells ≤ y → most_doors ≤ z → Spaces s b c x y z
spaces k p h few i j l =
    let limits = counts _ _ _ h in
    record { corners = omega arith; cells = omega arith; doors = omega arith }

-- The cells of a file's list counted where they stand in the bytes.
use mathlib.Core.Bool.{true}
use mathlib.Core.List.{List}
use mathlib.Core.Path.{◌≡◌, sym, ap, ap₂, ◌∙◌}
use Prim.Native.Nat.{ℕ, ◌+◌, ◌*◌, ◌/◌, ◌<◌}
use native.Mathlib.Omega.{arith}
use lib.ListN.{length}
use Rattle.std.specs.Prelude.{Option, Some}
use Rattle.limits.specs.Limits.{triangles, polygons}
use Rattle.draw.specs.Counted.{counted, Tells}
use Rattle.draw.specs.declared.Sizes.{Sizes}
use Rattle.draw.proofs.Counts.{sizes, triangles_counted}
use Rattle.records.specs.Bytes.{number_at, numbers_at}
use Rattle.records.specs.Record.{body_length, second, framed}
use Rattle.records.proofs.Spelled.{length_numbers_at, number_listed}
use Rattle.records.proofs.Frames.{OfKind, is_framed}
use Rattle.records.proofs.Frames.OfKind.{triangles as triangles_record, polygons as polygons_record}
use Rattle.planfile.specs.File.{cells_in, kind_in}

-- where the number in the bytes at each place is told, the list in these bytes is
pub bytes_told : {told : ℕ → ℕ → Type 0} (s : List ℕ) (at m : ℕ) → ((i n : ℕ) → i < m → told i n → n ≡ number_at 2 s (at + 2 * i)) → Tells told (numbers_at 2 s at m)
bytes_told s at m h i n l is =
    let inside : i < m = omega (arith, length_numbers_at 2 s at m) in
    h i n inside is ∙ number_listed 2 s at m i inside

-- ---- the cells of a framed file, by their kind

module _ (s : List ℕ) (fr : framed s ≡ true) {k : ℕ} (is_k : k ≡ kind_in s) (at m : ℕ) (there : numbers_at 2 s at m ≡ cells_in s) where
  pub in_triangles : k ≡ triangles → Some (sizes (m / 6) (m / 2)) ≡ counted k (cells_in s)
  unfolding cells_in
  in_triangles h = by_kind (is_framed s fr).cells_kind
    where
      by_kind : OfKind (kind_in s) (body_length s (second s)) → Some (sizes (m / 6) (m / 2)) ≡ counted k (cells_in s)
      by_kind (polygons_record e n) = absurd (omega arith)
      by_kind (triangles_record e n) =
          let long : length (numbers_at 2 s at m) ≡ m = length_numbers_at 2 s at m in
          let same : m ≡ body_length s (second s) / 2 = sym long ∙ ap length there ∙ length_numbers_at 2 s (second s + 6) (body_length s (second s) / 2) in
          ap (λ (j : ℕ). Some (sizes (j / 6) (j / 2))) (sym long)
          ∙ triangles_counted (numbers_at 2 s at m) (omega arith)
          ∙ ap₂ counted (sym h) there

  pub in_polygons : (k ≡ triangles → ⊥) → {r : Option Sizes} → r ≡ counted polygons (numbers_at 2 s at m) → r ≡ counted k (cells_in s)
  in_polygons h {r} is_r = by_kind (is_framed s fr).cells_kind
    where
      by_kind : OfKind (kind_in s) (body_length s (second s)) → r ≡ counted k (cells_in s)
      by_kind (triangles_record e n) = absurd (h (is_k ∙ e))
      by_kind (polygons_record e n) = is_r ∙ ap₂ counted (sym (is_k ∙ e)) there

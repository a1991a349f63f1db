-- A loop over the cells of a list of kind 12 that knows its numbers one by one.
use mathlib.Core.List.{List, [], ◌∷◌}
use mathlib.Core.Path.{◌≡◌, refl, sym, ap, ap₂, subst, ◌∙◌}
use Prim.Native.Nat.{ℕ, ◌+◌, ◌*◌, ◌<◌, ◌≤◌}
use native.Mathlib.Numerals.{add-one}
use native.Mathlib.Omega.{arith}
use lib.ListN.{length, drop, get_or, length-drop}
use lib.Seq.{drop-cons, drop-drop}
use Rattle.std.specs.Prelude.{None, Some}
use Rattle.limits.specs.Limits.{least_sides, most_sides, polygons}
use Rattle.cells.specs.Cut.{Cell, broken, cut}
use Rattle.cells.proofs.Cuts.{cut_no_polygons, cut_too_few_corners, cut_too_many_corners, cut_past_the_end}
use Rattle.draw.specs.Counted.{counted, Tells}
use Rattle.draw.proofs.Passed.{Passed, passed_nothing, polygon_passed, broken_at}
use Rattle.draw.proofs.Counts.{sizes, counted_broken, all_counted}

-- it is at number `at` of m, and has passed c cells of f sides, whichever list it is that is told
pub record Walked (told : ℕ → ℕ → Type 0) (m at c f : ℕ) : Type 0 where
  -- a number before each cell, and two for each side
  pub here : at ≡ c + 2 * f
  pub within : at ≤ m
  pub passed : (ts : List ℕ) → length ts ≡ m → Tells told ts → (done : List Cell) × Passed polygons ts (drop at ts) c f done

pub walk_begins : (told : ℕ → ℕ → Type 0) (m : ℕ) → Walked told m 0 0 0
walk_begins told m = record { here = refl; within = omega arith; passed = λ ts long l. ([], passed_nothing polygons ts) }

module _ {told : ℕ → ℕ → Type 0} {m at c f : ℕ} (w : Walked told m at c f) where
  -- the corner count of the cell that it is at
  module _ (h : at < m) {n : ℕ} (is : told at n) where
    module _ (ts : List ℕ) (long : length ts ≡ m) (l : Tells told ts) where
      listed : n ≡ get_or ts at 0
      listed = l at n (omega arith) is

      -- that number, and what stands behind it
      stands : drop at ts ≡ n ∷ drop (at + 1) ts
      stands =
          drop-cons ts at 0 (omega arith)
          ∙ ap₂ {C = List ℕ} (λ (x j : ℕ). x ∷ drop j ts) (sym listed) (sym (add-one at))

      no_cell : cut polygons (n ∷ drop (at + 1) ts) ≡ broken → None ≡ counted polygons ts
      no_cell e = counted_broken polygons ts (broken_at (w.passed ts long l).1 (ap (cut polygons) stands ∙ e))

      pub too_few_corners : n < least_sides → None ≡ counted polygons ts
      too_few_corners k = no_cell (cut_too_few_corners n (drop (at + 1) ts) k)

      pub too_many_corners : most_sides < n → None ≡ counted polygons ts
      too_many_corners k = no_cell (cut_too_many_corners n (drop (at + 1) ts) k)

      pub past_the_end : m ≤ at + 2 * n → None ≡ counted polygons ts
      past_the_end k = no_cell (cut_past_the_end n (drop (at + 1) ts) (omega (arith, length-drop (at + 1) ts)))

    pub walk_goes_on : least_sides ≤ n → n ≤ most_sides → at + 2 * n < m → {at' : ℕ} → at' ≡ at + 2 * n + 1 → Walked told m at' (c + 1) (f + n)
    walk_goes_on j k room {at'} e =
        record {
          here = omega (arith, w.here);
          within = omega arith;
          passed = λ ts long l.
              let p = subst (λ (r : List ℕ). Passed polygons ts r c f (w.passed ts long l).0) (stands ts long l) (w.passed ts long l).1 in
              let there : at + 1 + 2 * n ≡ at' = omega arith in
              (_, polygon_passed p j k (omega (arith, length-drop (at + 1) ts)) (ap (λ (j : ℕ). drop j ts) (sym there) ∙ sym (drop-drop (2 * n) (at + 1) ts)) refl);
        }

  pub walk_ends : m ≤ at → (ts : List ℕ) → length ts ≡ m → Tells told ts → Some (sizes c f) ≡ counted polygons ts
  walk_ends h ts long l = all_counted polygons ts (w.passed ts long l).1 (omega (arith, length-drop at ts)) cut_no_polygons

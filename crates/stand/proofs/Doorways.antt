-- The search for a free side that the stand is strictly within: one side, and cell after cell.
use mathlib.Core.Bool.{Bool, true, false, not}
use mathlib.Core.List.{List}
use mathlib.Core.Path.{◌≡◌, sym, ◌∙◌, ap, ap₂, subst}
use Prim.Native.Nat.{ℕ, suc, ◌+◌, ◌-◌, ◌<◌, ◌≤◌}
use native.Mathlib.Numerals.{add-one}
use native.Mathlib.Omega.{arith}
use borrow.Author.Tests.{lt-ltb, le-ltb}
use lib.Dec.{ltb}
use lib.IntN.{ℤ}
use Rattle.plane.specs.Side.{Point, point}
use Rattle.plane.specs.Tests.{is_within}
use Rattle.cells.specs.Least.{least, before}
use Rattle.cells.specs.Lists.{Cells, corner_at, cell_count, face_count, first, side_count, home, next, start}
use Rattle.cells.specs.Sound.{Numbered, Sound}
use Rattle.cells.proofs.Least.{least_bounds, holds_at_least, fails_before_least, Seeks, seek_begins, seek_found, seek_ends, seek_passes}
use Rattle.cells.proofs.Searches.{is_before, not_before}
use Rattle.cells.proofs.Faces.{SideOf, side_exists, firsts_grow, home_is, side_of_home}
use Rattle.limits.specs.declared.Refusal.TheVariants.{Line}
use Rattle.setting.specs.Setting.{ends}
use Rattle.stand.specs.Find.{strictly_within, within_free, first_within, side_at, by_places}
use Rattle.stand.specs.declared.locate.Footing.TheVariants.{Side}
use Rattle.stand.proofs.Sides.{Ends}
use Rattle.stand.proofs.Located.{not_within_is_not_there, within_is_there_if_free}
use Rattle.std.specs.Prelude.{None, Some, Err, Ok}

-- ---- one side

module _ {cs : List ℤ} {T : Cells} {ds : List ℕ} (sound : Sound cs T ds) where
  -- the side, from its start to its end
  pub side_read : {f n : ℕ} → f < face_count T → n ≡ next T f → (from to : List ℤ) → point from ≡ corner_at cs (start T f) → point to ≡ corner_at cs (start T n) → Ends cs T (home T f) f from to
  side_read {f} h is_n from to a b =
      record {
        here = side_of_home sound.numbered f h;
        from_there = a;
        to_there = b ∙ ap (λ (g : ℕ). corner_at cs (start T g)) is_n;
      }

-- by the code's answer whether it holds the stand strictly within
module _ {cs : List ℤ} {T : Cells} {c f : ℕ} {from to : List ℤ} (e : Ends cs T c f from to) (ds : List ℕ) (w : ℕ) (q : Point) {r : Bool} (is_r : r ≡ is_within (point from) (point to) q) where
  within_read : r ≡ strictly_within cs T q f
  unfolding strictly_within
  within_read = is_r ∙ ap₂ (λ (a b : Point). is_within a b q) e.from_there e.to_there

  pub not_in_it : r ≡ false → r ≡ within_free cs T ds w q f
  not_in_it k = k ∙ sym (not_within_is_not_there cs T q f ds w (sym within_read ∙ k))

  pub in_it_if_free : r ≡ true → {b : Bool} → b ≡ not (ends T ds w f) → b ≡ within_free cs T ds w q f
  in_it_if_free k is_b = is_b ∙ sym (within_is_there_if_free cs T q f ds w (sym within_read ∙ k))

-- ---- cell after cell

-- the sides of the cells before c are passed
pub record SoughtCells (t : ℕ → Bool) (T : Cells) (c : ℕ) : Type 0 where
  pub within : c ≤ cell_count T
  pub so_far : Seeks t (face_count T) (first T c)

module _ {T : Cells} (N : Numbered T) where
  pub cells_begin : (t : ℕ → Bool) → SoughtCells t T 0
  cells_begin t = record { within = omega arith; so_far = subst (Seeks t (face_count T)) (sym N.begins) (seek_begins t (face_count T)) }

  module _ {t : ℕ → Bool} {c : ℕ} (s : SoughtCells t T c) (h : c < cell_count T) where
    -- the sides before the least of cell c are passed too
    passed : (k : ℕ) → first T c + k ≤ least t (side_count T c) (first T c) → first T c + k ≤ first T (suc c) → Seeks t (face_count T) (first T c + k)
    passed k l m =
        seek_passes s.so_far k (omega (arith, firsts_grow N (suc c) (cell_count T) h (omega arith), N.ends))
        (λ j a b. fails_before_least t (side_count T c) (first T c) j a (omega arith))

    pub cells_go_on : None ≡ before (first T (suc c)) (least t (side_count T c) (first T c)) → SoughtCells t T (c + 1)
    cells_go_on none =
        let all : first T c + side_count T c ≡ first T (suc c) = omega (arith, N.at_least c h) in
        let after : first T c + side_count T c ≡ first T (c + 1) = all ∙ ap (first T) (sym (add-one c)) in
        record { within = omega arith; so_far = subst (Seeks t (face_count T)) after (passed (side_count T c) (omega (arith, not_before none)) (omega arith)) }

    module _ {f : ℕ} (some : Some f ≡ before (first T (suc c)) (least t (side_count T c) (first T c))) where
      pub side_there : SideOf T c f
      side_there =
          let found = is_before some in
          record {
            not_before = omega (arith, found.0, least_bounds t (side_count T c) (first T c));
            not_after = omega (arith, found.0, found.1);
          }

      pub side_found : f ≡ least t (face_count T) 0
      side_found =
          let found : (f ≡ least t (side_count T c) (first T c)) × (least t (side_count T c) (first T c) < first T (suc c)) = is_before some in
          let same : first T c + (f - first T c) ≡ f = omega (arith, side_there.not_before) in
          let holds : t f ≡ true = subst (λ (g : ℕ). t g ≡ true) (sym found.0) (holds_at_least t (side_count T c) (first T c) (omega (arith, found.1, N.at_least c h))) in
          seek_found (subst (Seeks t (face_count T)) same (passed (f - first T c) (omega (arith, same, found.0)) (omega (arith, same, side_there.not_after)))) (side_exists N h side_there) holds

module _ (cs : List ℤ) {T : Cells} (N : Numbered T) (ds : List ℕ) (w : ℕ) (q : Point) {c : ℕ} (s : SoughtCells (within_free cs T ds w q) T c) where
  -- the least free side that holds the stand is side f of cell c
  pub stands_on_a_side : c < cell_count T → {f : ℕ} → Some f ≡ before (first T (suc c)) (least (within_free cs T ds w q) (side_count T c) (first T c)) → Ok (Side c (f - first T c)) ≡ by_places false (ltb (first_within cs T ds w q) (face_count T)) true 0 (side_at T (first_within cs T ds w q))
  stands_on_a_side h {f} some =
      let here = side_there N s h some in
      let is_f = side_found N s h some in
      let below : first_within cs T ds w q < face_count T = omega (arith, is_f, side_exists N h here) in
      let there : side_at T f ≡ Side c (f - first T c) = ap (λ (d : ℕ). Side d (f - first T d)) (home_is N h here) in
      simp (lt-ltb _ _ below) (ap Ok (sym there ∙ ap (side_at T) is_f))

  pub stands_on_no_side : cell_count T ≤ c → Err Line ≡ by_places false (ltb (first_within cs T ds w q) (face_count T)) true 0 (side_at T (first_within cs T ds w q))
  stands_on_no_side h =
      let last : cell_count T ≡ c = omega (arith, s.within) in
      let end : first T c ≡ face_count T = ap (first T) (sym last) ∙ N.ends in
      let all : face_count T ≤ first_within cs T ds w q = omega (arith, end, seek_ends s.so_far (omega (arith, end))) in
      simp (le-ltb _ _ all)

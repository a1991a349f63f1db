-- The promise of finding leaves one reply; a stand is one point, found at one place.
use mathlib.Core.List.{List}
use mathlib.Core.Path.{◌≡◌, sym, ap, ◌∙◌}
use Prim.Native.Nat.{ℕ}
use lib.IntN.{ℤ}
use Rattle.plane.specs.Side.{Point}
use Rattle.cells.specs.Lists.{Cells}
use Rattle.stand.specs.Spot.{stood}
use Rattle.stand.specs.Find.{located, found}
use Rattle.stand.specs.declared.spot.Stand.{Stand}
use Rattle.stand.specs.declared.locate.Footing.{Footing}
use Rattle.limits.specs.declared.Refusal.{Refusal}
use Rattle.std.specs.Prelude.{Ok, Result, Some, Option}

pub find_has_one_reply : (kind : ℕ) (cs : List ℤ) (ts ds : List ℕ) (setting : ℕ) (stand : Stand) {r s : Result Footing Refusal} → r ≡ found kind cs ts ds setting stand → s ≡ found kind cs ts ds setting stand → r ≡ s
find_has_one_reply kind cs ts ds setting stand h k = h ∙ sym k

-- so does every promise that equates a result with a definition of the input, whatever the result is
pub an_equation_has_one_reply : {A : Type 0} (x : A) {r s : A} → r ≡ x → s ≡ x → r ≡ s
an_equation_has_one_reply x h k = h ∙ sym k

module _ (cs : List ℤ) (s : Stand) {x y x' y' : ℤ} (at : stood cs s ≡ Some (x, y)) (at' : stood cs s ≡ Some (x', y')) where
  pub a_stand_is_one_point : ◌≡◌ {A = Point} (record { x = x; y = y }) (record { x = x'; y = y' })
  a_stand_is_one_point =
      let same : ◌≡◌ {A = Option (ℤ × ℤ)} (Some (x, y)) (Some (x', y')) = sym at ∙ at' in
      let pairs : ◌≡◌ {A = ℤ × ℤ} (x, y) (x', y') = cc in
      ap (λ (q : ℤ × ℤ). record { x = q.0; y = q.1 }) pairs

  pub a_stand_has_one_place : (T : Cells) (ds : List ℕ) (w : ℕ) {p p' : Footing} → located cs T ds w (record { x = x; y = y }) ≡ Ok p → located cs T ds w (record { x = x'; y = y' }) ≡ Ok p' → p ≡ p'
  a_stand_has_one_place T ds w {p} {p'} there there' =
      let same : ◌≡◌ {A = Result Footing Refusal} (Ok p) (Ok p') = sym there ∙ ap (located cs T ds w) a_stand_is_one_point ∙ there' in
      cc

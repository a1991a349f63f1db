-- A door whose line does not hold the stand changes nothing of where it stands (document 02, A4).
use mathlib.Core.Bool.{Bool, true, false, ◌&&◌}
use mathlib.Core.List.{List}
use mathlib.Core.Path.{◌≡◌, sym, ◌∙◌, ap}
use Prim.Native.Nat.{ℕ, ◌<◌}
use borrow.Author.Tests.{lt-ltb}
use lib.ListN.{length, get_or}
use lib.IntN.{ℤ}
use Rattle.plane.specs.Side.{Point}
use Rattle.cells.specs.Lists.{Cells, face_count, back}
use Rattle.cells.specs.Sound.{Sound}
use Rattle.cells.proofs.Least.{not_both}
use Rattle.cells.proofs.Plans.{back_exists, back_of_back, door_exists, door_is_free}
use Rattle.setting.specs.Setting.{ends}
use Rattle.setting.proofs.Settings.{shutting_changes_no_other_face, opening_changes_no_other_face}
use Rattle.stand.specs.Find.{strictly_within, located}
use Rattle.stand.specs.declared.locate.Footing.{Footing}
use Rattle.stand.proofs.Located.{Stands, found_place_holds_the_stand, place_is_found, located_where_it_was, within_from_both_sides}
use Rattle.stand.proofs.Located.Stands.{in_a_cell, on_a_side}
use Rattle.doors.specs.Change.{wished, underfoot}
use Rattle.doors.proofs.PlanDoors.{other_is_free, other_of_other}
use Rattle.std.specs.Prelude.{Ok}

module _ {cs : List ℤ} {T : Cells} {ds : List ℕ} (sound : Sound cs T ds) (q : Point) (i : ℕ) (exists : i < length ds) where
  abbrev face : ℕ
  face = get_or ds i 0

  face_exists : face < face_count T
  face_exists = door_exists sound i exists

  module _ (clear : strictly_within cs T q face ≡ false) (f : ℕ) (h : f < face_count T) (within : strictly_within cs T q f ≡ true) where
    -- a line that holds the stand is neither face of the door
    not_the_face : f ≡ face → ⊥
    not_the_face e = not_both within (ap (strictly_within cs T q) e ∙ clear)

    not_the_other : f ≡ back T face → ⊥
    not_the_other e =
        let other = back_exists sound face face_exists (door_is_free sound i exists) in
        let beyond = within_from_both_sides sound q (back T face) other (other_is_free sound i exists) (ap (strictly_within cs T q) (sym e) ∙ within) in
        not_both beyond (ap (strictly_within cs T q) (other_of_other sound i exists) ∙ clear)

    ends_as_before : (w : ℕ) (b : Bool) → ends T ds (wished b w i) f ≡ ends T ds w f
    ends_as_before w true = shutting_changes_no_other_face T ds w i f not_the_face not_the_other (λ free. back_of_back sound f h free)
    ends_as_before w false = opening_changes_no_other_face T ds w i f not_the_face not_the_other (λ free. back_of_back sound f h free)

  -- the same place is found under the wished setting
  pub located_under_the_wished : (w : ℕ) (b : Bool) {p : Footing} → located cs T ds w q ≡ Ok p → underfoot cs T ds i q p ≡ false → located cs T ds (wished b w i) q ≡ Ok p
  unfolding underfoot
  located_under_the_wished w b e = by_place (found_place_holds_the_stand cs sound.numbered ds w q e) e
    where
      by_place : {p : Footing} → Stands cs T ds w q p → located cs T ds w q ≡ Ok p → underfoot cs T ds i q p ≡ false → located cs T ds (wished b w i) q ≡ Ok p
      by_place (in_a_cell c) e u = place_is_found cs sound.numbered ds (wished b w i) q (in_a_cell c)
      by_place (on_a_side s) e u =
          let clear = sym (ap (λ (t : Bool). t && strictly_within cs T q face) (lt-ltb _ _ exists)) ∙ u in
          located_where_it_was cs T ds (wished b w i) w q (λ f h within. ends_as_before clear f h within w b) ∙ e

-- The door's line as the code reads it: from where its face starts to where its other face starts.
use mathlib.Core.Bool.{Bool, false, ◌&&◌}
use mathlib.Core.List.{List, [], ◌∷◌}
use mathlib.Core.Path.{◌≡◌, refl, sym, ◌∙◌, ap, ap₂, subst}
use Prim.Native.Nat.{ℕ, ◌*◌, ◌<◌, ◌≤◌}
use borrow.Author.Tests.{lt-ltb, le-ltb}
use lib.ListN.{length, get_or}
use lib.IntN.{ℤ}
use Rattle.plane.specs.Side.{Point, point, Near, AllNear}
use Rattle.plane.specs.Tests.{is_within}
use Rattle.cells.specs.Lists.{Cells, corner_count, corner_at, face_count, start, back}
use Rattle.cells.specs.Sound.{Sound}
use Rattle.cells.proofs.Plans.{corner_exists, back_exists, back_starts_at_the_finish, door_exists, door_is_free}
use Rattle.stand.specs.Find.{strictly_within}
use Rattle.stand.specs.declared.locate.Footing.{Footing}
use Rattle.stand.specs.declared.locate.Footing.TheVariants.{Inside, Side}
use Rattle.doors.specs.Change.{underfoot}

module _ (cs : List ℤ) (T : Cells) (ds : List ℕ) (i : ℕ) (q : Point) {p : Footing} where
  pub not_from_inside : {c : ℕ} → p ≡ Inside c → false ≡ underfoot cs T ds i q p
  unfolding underfoot
  not_from_inside e = rw e refl

  pub no_door_is_none_underfoot : {c k : ℕ} → p ≡ Side c k → length ds ≤ i → false ≡ underfoot cs T ds i q p
  unfolding underfoot
  no_door_is_none_underfoot e h = rw e (ap (λ (t : Bool). t && strictly_within cs T q (get_or ds i 0)) (sym (le-ltb _ _ h)))

module _ {cs : List ℤ} {T : Cells} {ds : List ℕ} (sound : Sound cs T ds) {i : ℕ} (exists : i < length ds) where
  abbrev face : ℕ
  face = get_or ds i 0

  pub face_exists : face < face_count T
  face_exists = door_exists sound i exists

  pub other_exists : back T face < face_count T
  other_exists = back_exists sound face face_exists (door_is_free sound i exists)

  pub starts_at_a_corner : {f : ℕ} → f < face_count T → get_or T.faces (2 * f) 0 < corner_count cs
  unfolding start
  starts_at_a_corner {f} h = corner_exists sound.numbered sound.cells f h

  -- g is its other face, and its two ends are read
  module _ {g : ℕ} (is_g : g ≡ back T face) (right left : List ℤ) (right_read : point right ≡ corner_at cs (get_or T.faces (2 * face) 0)) (left_read : point left ≡ corner_at cs (get_or T.faces (2 * g) 0)) where
    is_right : point right ≡ corner_at cs (start T face)
    unfolding start
    is_right = right_read

    is_left : point left ≡ corner_at cs (start T (back T face))
    unfolding start
    is_left = left_read ∙ ap (λ (f : ℕ). corner_at cs (start T f)) is_g

    pub line_is_near : {q : List ℤ} → Near (point q) → AllNear (right ∷ left ∷ q ∷ [])
    line_is_near near =
        let corner = corner_exists sound.numbered sound.cells in
        record {
          near₀ = subst Near (sym is_right) (sound.corners.near _ (corner face face_exists));
          near₁ = subst Near (sym is_left) (sound.corners.near _ (corner (back T face) other_exists));
          near₂ = near;
        }

    pub underfoot_read : (q : Point) {p : Footing} {c k : ℕ} → p ≡ Side c k → {r : Bool} → r ≡ is_within (point right) (point left) q → r ≡ underfoot cs T ds i q p
    unfolding underfoot strictly_within
    underfoot_read q e is =
        rw e
        (is
        ∙ ap₂ (λ (a b : Point). is_within a b q) is_right (is_left ∙ ap (corner_at cs) (back_starts_at_the_finish sound face face_exists (door_is_free sound i exists)))
        ∙ ap (λ (t : Bool). t && strictly_within cs T q face) (sym (lt-ltb _ _ exists)))

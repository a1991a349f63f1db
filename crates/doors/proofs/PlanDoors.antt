-- A door of an accepted plan, open and shut: its line and no other changes (document 01, "Side value and plan check"), and where it is out of reach not even that
-- (document 02, A5).
use mathlib.Core.Bool.{Bool, false, ◌||◌}
use mathlib.Core.List.{List}
use mathlib.Core.Path.{◌≡◌, sym, ◌∙◌, ap, ap₂, subst}
use Prim.Native.Nat.{ℕ, ◌<◌}
use native.Mathlib.Decide.{dec_lt}
use native.Mathlib.Omega.{arith}
use lib.ListN.{length, get_or}
use lib.IntN.{ℤ}
use Rattle.plane.specs.Side.{Point}
use Rattle.limits.specs.Limits.{wall}
use Rattle.cells.specs.Lists.{Cells, cell_count, face_count, neighbour, back}
use Rattle.cells.specs.Sound.{Sound}
use Rattle.cells.proofs.Doors.{names_neither}
use Rattle.cells.proofs.Plans.{back_is_free, back_of_back, back_starts_at_the_finish, back_finishes_at_the_start, door_exists, door_is_free, no_earlier_door_names_its_line}
use Rattle.setting.specs.Setting.{shut, with_shut, ends}
use Rattle.setting.proofs.Settings.{open_stays, shutting_changes_no_other_face, shutting_ends_sight_at_the_face, shutting_ends_sight_at_the_back, opening_frees_the_face}
use Rattle.reach.specs.Reach.{out_of_reach}
use Rattle.reach.proofs.Reaching.{in_reach_from_either_end, in_reach_is_0}
use Rattle.stand.specs.declared.locate.Footing.{Footing}
use Rattle.stand.proofs.Located.{Stands}
use Rattle.runs.specs.Floors.{Shuts}
use Rattle.runs.proofs.Demand3.{DoorChange}
use Rattle.runs.proofs.InThePlane.{change_in_the_plane}
use Rattle.sight.specs.Listing.{seen, unreached, plan_floor, standing}
use Rattle.sight.proofs.PlanFloor.{passed_is_in_reach, plan_geometry, stands_on_the_floor}

module _ {cs : List ℤ} {T : Cells} {ds : List ℕ} (sound : Sound cs T ds) where
  module _ (i : ℕ) (h : i < length ds) where
    -- the door's two faces
    abbrev pub face : ℕ
    face = get_or ds i 0

    abbrev pub other : ℕ
    other = back T (get_or ds i 0)

    pub other_is_free : neighbour T other ≡ wall → ⊥
    other_is_free = back_is_free sound face (door_exists sound i h) (door_is_free sound i h)

    pub other_of_other : back T other ≡ face
    other_of_other = back_of_back sound face (door_exists sound i h) (door_is_free sound i h)

    -- no other door names its line, from either face
    no_other_door : (e : ℕ) → e < length ds → (e ≡ i → ⊥) → (get_or ds e 0 ≡ face → ⊥) × (get_or ds e 0 ≡ other → ⊥)
    no_other_door e k n = by_order (dec_lt e i)
      where
        by_order : Dec (e < i) → (get_or ds e 0 ≡ face → ⊥) × (get_or ds e 0 ≡ other → ⊥)
        by_order (yes l) = no_earlier_door_names_its_line sound i h e l
        by_order (no l) =
            let m = no_earlier_door_names_its_line sound e k i (omega arith) in
            (λ s. m.0 (sym s), λ s. m.1 (sym (ap (back T) s ∙ other_of_other)))

    module _ (w : ℕ) where
      open_at_the_face : shut w i ≡ false → ends T ds w face ≡ false
      open_at_the_face s =
          subst (λ (v : ℕ). ends T ds v face ≡ false) (open_stays w i s)
          (opening_frees_the_face T ds w i face (door_is_free sound i h) (λ e k n. let m = no_other_door e k n in names_neither _ _ _ _ m.0 m.1))

      open_at_the_other : shut w i ≡ false → ends T ds w other ≡ false
      open_at_the_other s =
          subst (λ (v : ℕ). ends T ds v other ≡ false) (open_stays w i s)
          (opening_frees_the_face T ds w i other other_is_free (λ e k n. let m = no_other_door e k n in names_neither _ _ _ _ m.1 (λ p. m.0 (p ∙ other_of_other))))

      module _ (R : ℕ) (q : Point) where
        -- the door's line is in reach from both its faces or from neither
        as_far_from_the_other : unreached cs T R q other ≡ unreached cs T R q face
        as_far_from_the_other =
            ap₂ (λ (a b : ℕ). out_of_reach R (seen cs q a) (seen cs q b)) (back_starts_at_the_finish sound face (door_exists sound i h) (door_is_free sound i h))
            (back_finishes_at_the_start sound face (door_exists sound i h) (door_is_free sound i h))
            ∙ in_reach_from_either_end R _ _

        -- while it is open, sight ends at the door where it is out of reach
        pub ends_at_the_open_door : shut w i ≡ false → (plan_floor cs T ds w R q).ends face ≡ unreached cs T R q face
        ends_at_the_open_door s = ap (λ (b : Bool). b || unreached cs T R q face) (open_at_the_face s)

        -- shutting ends sight at both faces of the door and changes nothing at any other face
        pub plan_shuts : shut w i ≡ false → Shuts (face_count T) face other (plan_floor cs T ds w R q) (plan_floor cs T ds (with_shut w i) R q).ends
        plan_shuts s =
            record {
              shut_face = rw (shutting_ends_sight_at_the_face T ds w i h);
              shut_back = rw (shutting_ends_sight_at_the_back T ds w i h other_of_other);
              elsewhere = λ f k not_the_face not_the_back.
                  ap (λ (b : Bool). b || unreached cs T R q f)
                  (shutting_changes_no_other_face T ds w i f not_the_face not_the_back (λ free. back_of_back sound f k free));
              alike_from_both = ap₂ ◌||◌ (open_at_the_other s ∙ sym (open_at_the_face s)) as_far_from_the_other;
              passed_in_reach = λ f e. in_reach_is_0 R _ _ (passed_is_in_reach cs T ds w R q f e);
            }

  -- door i, open under the setting w, and shut, seen from a stand
  pub plan_change : (w R : ℕ) (q : Point) (p : Footing) → Stands cs T ds w q p → (i : ℕ) → i < length ds → shut w i ≡ false
      → DoorChange (face_count T) (get_or ds i 0) (back T (get_or ds i 0)) (plan_floor cs T ds w R q) (plan_floor cs T ds (with_shut w i) R q).ends (cell_count T) (standing T p)
  plan_change w R q p stands i h is_open = change_in_the_plane (plan_geometry sound w R q) (stands_on_the_floor sound w R q stands) (plan_shuts i h w R q is_open)

-- One stand over the lines drawn: what following the lines around it asks, and what is written.
use mathlib.Core.Bool.{Bool}
use mathlib.Core.List.{List, [], ◌∷◌}
use mathlib.Core.Path.{◌≡◌, refl, sym, ap, ap₂, ◌∙◌, subst}
use Prim.Native.Nat.{ℕ, suc, ◌+◌, ◌*◌, ◌<◌, ◌≤◌}
use native.Mathlib.Omega.{arith}
use lib.ListN.{length, set}
use lib.Seq.{sets}
use lib.IntN.{ℤ}
use mir.Syntax.{w64}
use mir.Val.{to_z, of_z}
use Rattle.plane.specs.Side.{Point, point, Near}
use Rattle.limits.specs.Limits.{most_corners, most_reach}
use Rattle.limits.specs.Reply.{number}
use Rattle.limits.specs.declared.Refusal.{Refusal}
use Rattle.limits.specs.declared.Refusal.TheVariants.{Room}
use Rattle.cells.specs.Lists.{Cells, corner_count, face_count}
use Rattle.cells.specs.Sound.{CornersNear, Numbered, Sound}
use Rattle.reach.specs.Reach.{range}
use Rattle.reach.proofs.Reaching.{right_reach}
use Rattle.stand.specs.Spot.{stood}
use Rattle.stand.specs.declared.spot.Stand.{Stand}
use Rattle.stand.specs.declared.locate.Footing.{Footing}
use Rattle.stand.proofs.Finds.{as_read, near_as_read}
use Rattle.stand.proofs.Located.{Stands, found_place_holds_the_stand}
use Rattle.fan.specs.Sight.{Sight, row_count, crossings, Whole}
use Rattle.expand.specs.Floor.{Lines, Starts}
use Rattle.lines.specs.Lined.{Lined}
use Rattle.sight.specs.CellTree.{stand_tree, StandsIn}
use Rattle.sight.specs.Seen.{SeenFrom}
use Rattle.sight.specs.Listing.{view_of_spot, refuse, rows_from, listed_from}
use Rattle.sight.specs.Ceiling.{enough, up_to, tree_up_to}
use Rattle.sight.proofs.Lister.{tables_serve, tree_listed}
use Rattle.sight.proofs.Views.{Spotted, spot_says, is_long}
use Rattle.morning.specs.Morning.{rows_of, crossings_of, three_of}
use Rattle.morning.specs.OverLines.{listed_on}
use Rattle.sight.specs.declared.list.Counts.{Counts}
use Rattle.sight.specs.declared.view.View.{View}
use Rattle.std.specs.Prelude.{Err, Ok, Option, Result}

-- three stores one behind the other
pub three_put : (l : List ℕ) (at a b c : ℕ) → set (set (set l at a) (at + 1) b) (at + 2) c ≡ sets l at (a ∷ b ∷ c ∷ [])
three_put l at a b c =
    let second : at + 1 ≡ suc at = omega arith in
    let third : at + 2 ≡ suc (suc at) = omega arith in
    λ k. set (set (set l at a) (second k) b) (third k) c

-- a stand as it is passed on
abbrev seen_from : ℤ → ℤ → Point
seen_from x y = point (to_z w64 (of_z w64 x) ∷ to_z w64 (of_z w64 y) ∷ [])

module _ (cs : List ℤ) (T : Cells) (ds : List ℕ) (w : ℕ) (r : Option ℕ) (c : Option ℕ) (s : Stand) (table : List ℕ) where
  by_view : {v : Result View Refusal} → view_of_spot cs T ds w r (stood cs s) ≡ v → up_to c table (listed_from cs T ds w (range r) table v) ≡ listed_on cs T ds w r c s table
  unfolding listed_on
  by_view e = ap (λ (v : Result View Refusal). up_to c table (listed_from cs T ds w (range r) table v)) (sym e)

  pub stand_refused : {x : Refusal} → view_of_spot cs T ds w r (stood cs s) ≡ Err x → (Err x, table) ≡ listed_on cs T ds w r c s table
  stand_refused view = by_view view

-- ---- a stand that is found

module _ {cs : List ℤ} {T : Cells} {ds : List ℕ} (sound : Sound cs T ds) (w : ℕ) (r : Option ℕ) (s : Stand) {x y : ℤ} {p : Footing} (view : view_of_spot cs T ds w r (stood cs s) ≡ Ok (record { x = x; y = y; footing = p })) where
  abbrev q : Point
  q = seen_from x y

  spot : Spotted cs T ds w r s x y p
  spot = spot_says cs T ds w r s view

  read : q ≡ record { x = x; y = y }
  read = as_read spot.stand_near

  near : Near q
  near = near_as_read spot.stand_near

  stands : Stands cs T ds w q p
  stands = subst (λ (q : Point). Stands cs T ds w q p) (sym read) (found_place_holds_the_stand cs sound.numbered ds w _ spot.stand_place)

  pub corners_seen_asked : CornersNear cs × Near q
  corners_seen_asked = (sound.corners, near)

  -- R is the range as the code has it
  module _ {R : ℕ} (in_range : R ≡ range r) {ls : List ℕ} (lined : Lined T ds w ls) {zs : List ℤ} (seen : SeenFrom cs q zs) (table : List ℕ) (room : 4 * corner_count cs ≤ length table) where
    abbrev tree : Sight
    tree = stand_tree zs ls T R p

    pub lines_asked : (Lines zs ls × Starts zs ls T.faces × (R ≤ most_reach) × Numbered T) × ((StandsIn ls T p × (length ls ≡ 4 * face_count T)) × (Whole tree × ((4 * row_count tree ≤ length table) × ((row_count tree ≤ most_corners) × (crossings tree < enough)))))
    lines_asked = tables_serve sound w R q near lined seen p stands (subst (λ (n : ℕ). n ≤ most_reach) (sym in_range) (right_reach r spot.reach_right)) (length table) room

    pub stand_listed : (c : Option ℕ) {a : Result Counts Refusal × List ℕ} → a ≡ tree_up_to c table tree → a ≡ listed_on cs T ds w r c s table
    stand_listed c e =
        let said =
        tree_listed sound w R q near lined seen p stands table
        ∙ ap₂ (λ (R : ℕ) (q : Point). rows_from cs T ds w R table q p) in_range read
        ∙ ap (λ (b : Bool). refuse b Room table (rows_from cs T ds w (range r) table (record { x = x; y = y }) p)) (sym (is_long cs table room)) in
        e ∙ ap (up_to c table) said ∙ by_view cs T ds w r c s table view

-- ---- the stand's reply

-- counts, table and replies are left by the stand's listing
abbrev Left : ℕ → List ℕ → ℕ → ℕ → List ℕ → List ℕ → Result Counts Refusal × List ℕ → Type 0
Left at old i j new new_replies l =
    (i ≡ rows_of l.0) × ((j ≡ crossings_of l.0) × ((new ≡ l.1) × (new_replies ≡ sets old at (three_of l.0))))

module _ (at : ℕ) (old : List ℕ) {l : Result Counts Refusal × List ℕ} {a : Result Counts Refusal} {new new_replies : List ℕ} (listed : (a, new) ≡ l) where
  pub refusal_left : {x : Refusal} {n : ℕ} → a ≡ Err x → n ≡ number x → new_replies ≡ sets old at (n ∷ 0 ∷ 0 ∷ []) → Left at old 0 0 new new_replies l
  refusal_left is e h =
      subst (Left at old 0 0 new new_replies) listed
      (subst (λ (a : Result Counts Refusal). Left at old 0 0 new new_replies (a, new)) (sym is) (refl, (refl, (refl, h ∙ ap (λ (n : ℕ). sets old at (n ∷ 0 ∷ 0 ∷ [])) e))))

  pub rows_left : {i j : ℕ} → a ≡ Ok (record { rows = i; crossings = j }) → new_replies ≡ sets old at (0 ∷ i ∷ j ∷ []) → Left at old i j new new_replies l
  rows_left {i} {j} is h = subst (Left at old i j new new_replies) listed (subst (λ (a : Result Counts Refusal). Left at old i j new new_replies (a, new)) (sym is) (refl, (refl, (refl, h))))

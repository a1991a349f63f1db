-- A floor in the plane, with a stand of either kind, has what shutting and opening ask of it.
use mathlib.Core.Bool.{Bool}
use mathlib.Core.Path.{◌≡◌}
use Prim.Native.Nat.{ℕ, zero, suc, ◌<◌}
use Rattle.plane.specs.Side.{Point}
use Rattle.plane.proofs.Cones.{cone_is_never_empty}
use Rattle.fan.specs.Sight.{Floor, Standing, sides, other_sides, lines_around, unentered, seen_from}
use Rattle.fan.specs.Once.{At}
use Rattle.fan.proofs.Around.{Stands, Around, around_the_stand}
use Rattle.fan.proofs.Around.Stands.{stands_inside, stands_within}
use Rattle.fan.proofs.Exit.{leaves_from_right}
use Rattle.fan.proofs.Geometry.{Geometry, around}
use Rattle.fan.proofs.Start.{others_end_where_it_starts}
use Rattle.fan.proofs.Listing.{listing_is_whole}
use Rattle.runs.specs.Route.{routed}
use Rattle.runs.specs.Floors.{Stops, Shuts, Faces}
use Rattle.runs.proofs.Demand3.{DoorChange}
use Rattle.runs.proofs.Further.{Stopped}
use Rattle.runs.proofs.Through.{Linked, linked_joined, Lines, listing_goes_through}
use Rattle.runs.proofs.Through.Linked.{alone, in_front}
use Rattle.runs.proofs.Ways.{OwnWays, every_row_has_its_own_way}

module _ {F : Floor} {N M : ℕ} {see : ℕ → Point} {cell : ℕ → ℕ} (G : Geometry F N M see cell) where
  pub faces_in_the_plane : Faces N F
  faces_in_the_plane =
      record {
        back_is_a_face = G.back_is_a_face;
        next_is_a_face = G.next_is_a_face;
        as_many_sides = G.as_many_sides;
        never_itself = G.never_itself;
      }

  -- ---- the lines around a stand

  linked_sides : (m e : ℕ) → e < N → Linked F (sides F.next m e) (F.right_end e) (F.left_end (around F m e))
  unfolding sides around
  linked_sides zero e h = alone
  linked_sides (suc m) e h = in_front (rw (G.next_starts e h) at (linked_sides m (F.next e) (G.next_is_a_face e h)))

  -- the other sides of a cell go from the left end of a side to its right end
  linked_others : {s : ℕ} → s < N → Linked F (other_sides F s) (F.left_end s) (F.right_end s)
  linked_others {s} h =
      rw (← G.next_starts s h, ← others_end_where_it_starts G h) (linked_sides (F.more s) (F.next s) (G.next_is_a_face s h))

  module _ {p : Standing} (S : Stands F N see p) where
    A : Around G (lines_around F p)
    A = around_the_stand G S

    linked_around : (r : ℕ) × (l : ℕ) × Linked F (lines_around F p) r l
    unfolding lines_around
    linked_around = by_kind S
      where
        by_kind : {p : Standing} → Stands F N see p → (r : ℕ) × (l : ℕ) × Linked F (lines_around F p) r l
        by_kind (stands_inside {f} s) = (_, _, linked_sides (suc (F.more f)) f s.is_a_face)
        by_kind (stands_within {s = s} w) =
            let h = w.is_a_face in
            let beyond = linked_others (G.back_is_a_face s h w.free) in
            (_, _, linked_joined (linked_others h) (rw (G.back_finishes s h w.free) at beyond))

    -- no line is there twice: every direction that leaves by it would leave by both
    once_around : (e i j : ℕ) → At e (lines_around F p) i → At e (lines_around F p) j → i ≡ j
    once_around e i j a b =
        let (d, k) = cone_is_never_empty _ _ _ _ (A.in_sight e i a).seen in
        (A.apart d).same_place e e i j a b (leaves_from_right F see d k) (leaves_from_right F see d k)

    -- with one crossing for each cell not yet entered nothing is cut
    pub lines_in_the_plane : Lines N F (unentered M p) (lines_around F p)
    unfolding seen_from
    lines_in_the_plane =
        record {
          are_faces = λ e i a. (A.in_sight e i a).is_a_face;
          right = linked_around.0;
          left = linked_around.1;
          linked = linked_around.2;
          once = once_around;
          whole = listing_is_whole G S;
        }

    pub change_in_the_plane : {f₀ g₀ : ℕ} {once_shut : ℕ → Bool} → Shuts N f₀ g₀ F once_shut → DoorChange N f₀ g₀ F once_shut M p
    change_in_the_plane shuts = record { shuts = shuts; faces = faces_in_the_plane; lines = lines_in_the_plane }

    pub stopped_in_the_plane : {stops ends : ℕ → Bool} {far : ℕ → ℕ} → Stops N F stops ends far → Stopped N F stops ends far M p
    stopped_in_the_plane stops = record { where_stopped = stops; faces = faces_in_the_plane; lines = lines_in_the_plane }

    pub every_listed_row_has_its_own_way : OwnWays (routed (seen_from F M p))
    unfolding seen_from
    every_listed_row_has_its_own_way = every_row_has_its_own_way (listing_goes_through faces_in_the_plane lines_in_the_plane)

-- Runs through the open door and rows on the shut door correspond one to one, in order; two visits by different routes stay two rows, also where they
-- are adjacent (document 01, "Changing a door").
use mathlib.Core.Bool.{Bool, true, false, true≢false}
use mathlib.Core.List.{List, [], ◌∷◌, map}
use mathlib.Core.Path.{◌≡◌, refl, sym, ◌∙◌, ap, ap₂}
use Prim.Native.Nat.{ℕ, zero, suc}
use Rattle.fan.specs.Sight.{Sight}
use Rattle.fan.specs.Sight.Sight.{pass, both}
use Rattle.fan.specs.Once.{At}
use Rattle.fan.specs.Once.At.{first, later}
use Rattle.fan.proofs.Places.{at_no_place, at_the_only_place, either_list}
use Rattle.runs.specs.Route.{Routed, routed, way}
use Rattle.runs.specs.Door.{is_door, crosses, same_to_door, on_door, those}
use Rattle.runs.specs.Shutting.{Piece, alone, in_front, joined, pieces, is_run, runs, door_row, shut_piece, shut_rows, prune}
use Rattle.runs.proofs.Lists.{All, at_mapped, mapped_at, kept, left_out, all_have, none_pass}
use Rattle.runs.proofs.Lists.All.{nothing, besides}
use Rattle.runs.proofs.Doors.{crosses_later}
use Rattle.runs.proofs.Pruned.{sight_passes_elsewhere}
use Rattle.runs.proofs.SameToDoor.{side_seen_is_the_door, same_to_door_says, same_to_door_is_transitive}
use Rattle.runs.proofs.Pieces.{joins, stays_alone, a_run_is_shut, another_row_stays}
use Rattle.runs.proofs.Through.{Through, rows_stand_where_sight_ends}
use Rattle.runs.proofs.Through.Through.{wall, crossed, shared}
use Rattle.runs.proofs.Runs.{shut_rows_are_the_pruned_rows}
use Rattle.runs.proofs.Ways.{OwnWays, own_ways_of_those, way_tells_the_place, every_row_has_its_own_way}

module _ (f₀ g₀ : ℕ) where
  -- ---- pieces and their rows

  -- what holds of a row alone, and of a row in front of a piece of which it holds, holds of all pieces
  all_joined : {P : Piece → Type 0} {ks : List Piece} (x : Routed) → P (alone x)
      → ((k : Piece) → same_to_door f₀ g₀ x.route k.first.route ≡ true → P k → P (in_front x k)) → All P ks → All P (joined f₀ g₀ x ks)
  unfolding joined
  all_joined x one more nothing = besides one nothing
  all_joined {P} x one more (besides {x = k} {xs = ks} h a) = by_test (same_to_door f₀ g₀ x.route k.first.route) refl
    where
      by_test : (b : Bool) → same_to_door f₀ g₀ x.route k.first.route ≡ b → All P (joined f₀ g₀ x (k ∷ ks))
      by_test true e = rw (joins f₀ g₀ x k ks e) (besides (more k e h) a)
      by_test false e = rw (stays_alone f₀ g₀ x k ks e) (besides one (besides h a))

  -- a piece's first row stands in the list
  first_rows_stand : (xs : List Routed) → All (λ (k : Piece). (j : ℕ) × At k.first xs j) (pieces f₀ g₀ xs)
  unfolding pieces
  first_rows_stand [] = nothing
  first_rows_stand (x ∷ xs) =
      all_joined x (zero, first) (λ k e h. (zero, first)) (all_have (λ k s. (suc s.0, later s.1)) (first_rows_stand xs))

  -- rows of one run have the same route up to and including the door
  pub rows_of_a_run_are_the_same_to_the_door : (xs : List Routed)
      → All (λ (k : Piece). (y : Routed) (j : ℕ) → At y k.others j → same_to_door f₀ g₀ k.first.route y.route ≡ true) (pieces f₀ g₀ xs)
  unfolding pieces
  rows_of_a_run_are_the_same_to_the_door [] = nothing
  rows_of_a_run_are_the_same_to_the_door (x ∷ xs) =
      all_joined x (λ y j p. absurd (at_no_place p)) (λ k e h y j p. in_front_of k e h p) (rows_of_a_run_are_the_same_to_the_door xs)
    where
      by_place : (p : List ℕ) {z y : Routed} {zs : List Routed} {j : ℕ} → same_to_door f₀ g₀ p z.route ≡ true
          → ((y : Routed) (j : ℕ) → At y zs j → same_to_door f₀ g₀ z.route y.route ≡ true) → At y (z ∷ zs) j → same_to_door f₀ g₀ p y.route ≡ true
      by_place p e h first = e
      by_place p e h (later q) = same_to_door_is_transitive f₀ g₀ p _ _ e (h _ _ q)

      in_front_of : (k : Piece) {y : Routed} {j : ℕ} → same_to_door f₀ g₀ x.route k.first.route ≡ true
          → ((y : Routed) (j : ℕ) → At y k.others j → same_to_door f₀ g₀ k.first.route y.route ≡ true) → At y (k.first ∷ k.others) j
          → same_to_door f₀ g₀ x.route y.route ≡ true
      in_front_of k e h p = by_place x.route e h p

  -- a row whose route does not cross the door stands alone
  pub other_rows_stand_alone : (xs : List Routed) → All (λ (k : Piece). is_run f₀ g₀ k ≡ false → k.others ≡ []) (pieces f₀ g₀ xs)
  unfolding pieces is_run
  other_rows_stand_alone [] = nothing
  other_rows_stand_alone (x ∷ xs) =
      all_joined x (λ c. refl)
      (λ k e h c. absurd (true≢false (sym (same_to_door_says f₀ g₀ x.route k.first.route e).first_crosses ∙ c)))
      (other_rows_stand_alone xs)

  -- ---- rows on the shut door

  door_row_is_on_the_door : (k : Piece) → is_run f₀ g₀ k ≡ true → on_door f₀ g₀ (door_row f₀ g₀ k) ≡ true
  unfolding is_run door_row on_door
  door_row_is_on_the_door k c = side_seen_is_the_door f₀ g₀ k.first.route c

  rows_on_the_door : {ks : List Piece} → All (λ (k : Piece). is_run f₀ g₀ k ≡ false → on_door f₀ g₀ k.first ≡ false) ks
      → those (on_door f₀ g₀) (map (shut_piece f₀ g₀) ks) ≡ map (door_row f₀ g₀) (those (is_run f₀ g₀) ks)
  unfolding those
  rows_on_the_door nothing = refl
  rows_on_the_door (besides {x = k} {xs = ks} h a) = by_run (rows_on_the_door a) (is_run f₀ g₀ k) refl
    where
      by_run : those (on_door f₀ g₀) (map (shut_piece f₀ g₀) ks) ≡ map (door_row f₀ g₀) (those (is_run f₀ g₀) ks) → (b : Bool) → is_run f₀ g₀ k ≡ b
          → those (on_door f₀ g₀) (shut_piece f₀ g₀ k ∷ map (shut_piece f₀ g₀) ks) ≡ map (door_row f₀ g₀) (those (is_run f₀ g₀) (k ∷ ks))
      by_run ih true c =
          rw (a_run_is_shut f₀ g₀ k c, kept (is_run f₀ g₀) k ks c)
          (kept (on_door f₀ g₀) (door_row f₀ g₀ k) (map (shut_piece f₀ g₀) ks) (door_row_is_on_the_door k c)
          ∙ ap (λ (xs : List Routed). door_row f₀ g₀ k ∷ xs) ih)
      by_run ih false c =
          rw (another_row_stays f₀ g₀ k c, left_out (is_run f₀ g₀) k ks c)
          (left_out (on_door f₀ g₀) k.first (map (shut_piece f₀ g₀) ks) (h c) ∙ ih)

  -- ---- a door out of reach: no passage is at it

  module _ {ends : ℕ → Bool} (no_passage : (f : ℕ) → ends f ≡ false → is_door f₀ g₀ f ≡ false) where
    pub nothing_to_prune : {fs : List ℕ} {r l : ℕ} {t : Sight} → Through ends fs r l t → prune f₀ g₀ t ≡ t
    unfolding prune
    nothing_to_prune (wall e) = refl
    nothing_to_prune (crossed {f = f} {r = r} {l = l} {t = t} e t₁) =
        sight_passes_elsewhere f₀ g₀ f r l t (no_passage f e) ∙ ap (pass f r l) (nothing_to_prune t₁)
    nothing_to_prune (shared none t₁ t₂) = ap₂ both (nothing_to_prune t₁) (nothing_to_prune t₂)

    no_route_crosses : {fs : List ℕ} {r l i : ℕ} {t : Sight} {x : Routed} → Through ends fs r l t → At x (routed t) i → crosses f₀ g₀ x.route ≡ false
    unfolding routed crosses
    no_route_crosses (wall e) p = ap (λ (x : Routed). crosses f₀ g₀ x.route) (at_the_only_place p)
    no_route_crosses (crossed {f = f} {t = t} e t₁) p =
        let (y, q, same) = at_mapped (routed t) p in
        ap (λ (x : Routed). crosses f₀ g₀ x.route) same ∙ crosses_later f₀ g₀ f (no_passage f e) y.route ∙ no_route_crosses t₁ q
    no_route_crosses (shared {t = t} none t₁ t₂) p = either_list (routed t) p (λ k q. no_route_crosses t₁ q) (λ k q. no_route_crosses t₂ q)

    pub no_runs : {fs : List ℕ} {r l : ℕ} {t : Sight} → Through ends fs r l t → runs f₀ g₀ (routed t) ≡ []
    unfolding runs is_run
    no_runs {t = t} L = none_pass (is_run f₀ g₀) (all_have (λ k s. no_route_crosses L s.1) (first_rows_stand (routed t)))

  -- ---- a door in reach: no row stands on it while it is open

  module _ {ends : ℕ → Bool} {fs : List ℕ} {r l : ℕ} {t : Sight} (L : Through ends fs r l t) (no_end : (f : ℕ) → ends f ≡ true → is_door f₀ g₀ f ≡ false) where
    -- runs through the open door and rows on the shut door correspond one to one, in order
    pub rows_on_the_door_are_the_runs : those (on_door f₀ g₀) (routed (prune f₀ g₀ t)) ≡ map (door_row f₀ g₀) (runs f₀ g₀ (routed t))
    unfolding shut_rows runs on_door
    rows_on_the_door_are_the_runs =
        ap (those (on_door f₀ g₀)) (shut_rows_are_the_pruned_rows f₀ g₀ L)
        ∙ rows_on_the_door (all_have (λ k s c. no_end k.first.row.face (rows_stand_where_sight_ends L s.1)) (first_rows_stand (routed t)))

    -- no two runs have the same route up to and including the door
    pub runs_have_routes_of_their_own : {ends' : ℕ → Bool} {gs : List ℕ} {r' l' : ℕ} → Through ends' gs r' l' (prune f₀ g₀ t) → {k k' : Piece} {i j : ℕ}
        → At k (runs f₀ g₀ (routed t)) i → At k' (runs f₀ g₀ (routed t)) j → same_to_door f₀ g₀ k.first.route k'.first.route ≡ true → i ≡ j
    unfolding way door_row
    runs_have_routes_of_their_own L' {k} {k'} p q same =
        let s = same_to_door_says f₀ g₀ k.first.route k'.first.route same in
        let own : OwnWays (map (door_row f₀ g₀) (runs f₀ g₀ (routed t))) =
        rw rows_on_the_door_are_the_runs at (own_ways_of_those (on_door f₀ g₀) (every_row_has_its_own_way L')) in
        way_tells_the_place own (mapped_at (door_row f₀ g₀) p) (mapped_at (door_row f₀ g₀) q) (rw (s.same_before, s.same_side))

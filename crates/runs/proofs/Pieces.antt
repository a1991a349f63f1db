-- Runs on lists of rows with their routes: how they are found, and what shutting makes of them.
use mathlib.Core.Bool.{Bool, true, false}
use mathlib.Core.List.{List, [], ◌∷◌, ◌++◌, map, flat_map, map-append, map-map}
use mathlib.Core.Path.{◌≡◌, refl, sym, ◌∙◌, ap, fun_ext}
use Prim.Native.Nat.{ℕ, zero, suc}
use Rattle.fan.specs.Once.{At}
use Rattle.fan.specs.Once.At.{first, later}
use Rattle.runs.specs.Route.{Routed, via}
use Rattle.runs.specs.Door.{is_door, same_to_door}
use Rattle.runs.specs.Shutting.{Piece, alone, in_front, last, joined, pieces, is_run, door_row, shut_piece, shut_rows}
use Rattle.runs.proofs.Doors.{crosses_at_once, seen_at_once, nothing_before, all_the_same, crosses_later, seen_later, one_more_before, same_further_on}

-- the rows of a piece
abbrev pub rows_of : Piece → List Routed
rows_of k = k.first ∷ k.others

-- a piece, each row reached by crossing the line of face f first
abbrev piece_via : ℕ → Piece → Piece
piece_via f k = record { first = via f k.first; others = map (via f) k.others }

last_further_on : (f : ℕ) (x : Routed) (ys : List Routed) → last (via f x) (map (via f) ys) ≡ via f (last x ys)
unfolding last
last_further_on f x [] = refl
last_further_on f x (y ∷ ys) = last_further_on f y ys

module _ (f₀ g₀ : ℕ) where
  module _ (x : Routed) (k : Piece) (ks : List Piece) where
    pub joins : same_to_door f₀ g₀ x.route k.first.route ≡ true → joined f₀ g₀ x (k ∷ ks) ≡ in_front x k ∷ ks
    unfolding joined
    joins e = rw (e, joined)

    pub stays_alone : same_to_door f₀ g₀ x.route k.first.route ≡ false → joined f₀ g₀ x (k ∷ ks) ≡ alone x ∷ k ∷ ks
    unfolding joined
    stays_alone e = rw (e, joined)

  -- the first piece begins with the first row
  pub first_piece : (x : Routed) (xs : List Routed) → (ys : List Routed) × (ks : List Piece) × (pieces f₀ g₀ (x ∷ xs) ≡ record { first = x; others = ys } ∷ ks)
  unfolding pieces joined
  first_piece x xs = by_rest (pieces f₀ g₀ xs)
    where
      by_test : (k : Piece) (ks : List Piece) (b : Bool) → same_to_door f₀ g₀ x.route k.first.route ≡ b
          → (ys : List Routed) × (ls : List Piece) × (joined f₀ g₀ x (k ∷ ks) ≡ record { first = x; others = ys } ∷ ls)
      by_test k ks true e = (k.first ∷ k.others, ks, joins x k ks e)
      by_test k ks false e = ([], k ∷ ks, stays_alone x k ks e)

      by_rest : (ks : List Piece) → (ys : List Routed) × (ls : List Piece) × (joined f₀ g₀ x ks ≡ record { first = x; others = ys } ∷ ls)
      by_rest [] = ([], [], refl)
      by_rest (k ∷ ks) = by_test k ks (same_to_door f₀ g₀ x.route k.first.route) refl

  -- ---- the pieces are the list, cut up

  pub every_row_in_one_piece : (xs : List Routed) → flat_map rows_of (pieces f₀ g₀ xs) ≡ xs
  unfolding pieces flat_map
  every_row_in_one_piece [] = refl
  every_row_in_one_piece (x ∷ xs) = put_in_front (pieces f₀ g₀ xs) ∙ ap (λ (ys : List Routed). x ∷ ys) (every_row_in_one_piece xs)
    where
      by_test : (k : Piece) (ks : List Piece) (b : Bool) → same_to_door f₀ g₀ x.route k.first.route ≡ b
          → flat_map rows_of (joined f₀ g₀ x (k ∷ ks)) ≡ x ∷ flat_map rows_of (k ∷ ks)
      by_test k ks true e = rw (joins x k ks e)
      by_test k ks false e = rw (stays_alone x k ks e)

      put_in_front : (ks : List Piece) → flat_map rows_of (joined f₀ g₀ x ks) ≡ x ∷ flat_map rows_of ks
      put_in_front [] = unfold joined in refl
      put_in_front (k ∷ ks) = by_test k ks (same_to_door f₀ g₀ x.route k.first.route) refl

  -- ---- one row for a run

  module _ (k : Piece) where
    pub a_run_is_shut : is_run f₀ g₀ k ≡ true → shut_piece f₀ g₀ k ≡ door_row f₀ g₀ k
    unfolding shut_piece
    a_run_is_shut e = rw (e, shut_piece)

    pub another_row_stays : is_run f₀ g₀ k ≡ false → shut_piece f₀ g₀ k ≡ k.first
    unfolding shut_piece
    another_row_stays e = rw (e, shut_piece)

  -- ---- below a line

  -- all rows through the door's line form one run
  one_run : (f : ℕ) → is_door f₀ g₀ f ≡ true → (x : Routed) (xs : List Routed)
      → pieces f₀ g₀ (map (via f) (x ∷ xs)) ≡ record { first = via f x; others = map (via f) xs } ∷ []
  unfolding pieces joined
  one_run f e x [] = refl
  one_run f e x (y ∷ ys) =
      ap (joined f₀ g₀ (via f x)) (one_run f e y ys) ∙ joins (via f x) _ [] (all_the_same f₀ g₀ f e x.route y.route)

  pub door_row_of_a_run : (f : ℕ) → is_door f₀ g₀ f ≡ true → (x : Routed) (xs : List Routed)
      → shut_rows f₀ g₀ (map (via f) (x ∷ xs)) ≡ record { row = record { face = f; right = x.row.right; left = (last x xs).row.left; far = 0 }; route = [] } ∷ []
  unfolding shut_rows is_run door_row
  door_row_of_a_run f e x xs = rw (one_run f e x xs) (ap (λ (y : Routed). y ∷ []) one_row)
    where
      k : Piece
      k = record { first = via f x; others = map (via f) xs }

      one_row : shut_piece f₀ g₀ k ≡ record { row = record { face = f; right = x.row.right; left = (last x xs).row.left; far = 0 }; route = [] }
      one_row =
          a_run_is_shut k (crosses_at_once f₀ g₀ f e x.route)
          ∙ rw (seen_at_once f₀ g₀ f e x.route, nothing_before f₀ g₀ f e x.route, last_further_on f x xs)

  -- elsewhere runs are the runs further on
  joined_further_on : (f : ℕ) → is_door f₀ g₀ f ≡ false → (x : Routed) (ks : List Piece)
      → joined f₀ g₀ (via f x) (map (piece_via f) ks) ≡ map (piece_via f) (joined f₀ g₀ x ks)
  unfolding joined
  joined_further_on f e x [] = refl
  joined_further_on f e x (k ∷ ks) = by_test (same_to_door f₀ g₀ x.route k.first.route) refl
    where
      same : same_to_door f₀ g₀ (f ∷ x.route) (f ∷ k.first.route) ≡ same_to_door f₀ g₀ x.route k.first.route
      same = same_further_on f₀ g₀ f e x.route k.first.route

      by_test : (b : Bool) → same_to_door f₀ g₀ x.route k.first.route ≡ b
          → joined f₀ g₀ (via f x) (piece_via f k ∷ map (piece_via f) ks) ≡ map (piece_via f) (joined f₀ g₀ x (k ∷ ks))
      by_test true t = rw (joins (via f x) (piece_via f k) (map (piece_via f) ks) (same ∙ t), joins x k ks t)
      by_test false t = rw (stays_alone (via f x) (piece_via f k) (map (piece_via f) ks) (same ∙ t), stays_alone x k ks t)

  pieces_further_on : (f : ℕ) → is_door f₀ g₀ f ≡ false → (xs : List Routed) → pieces f₀ g₀ (map (via f) xs) ≡ map (piece_via f) (pieces f₀ g₀ xs)
  unfolding pieces
  pieces_further_on f e [] = refl
  pieces_further_on f e (x ∷ xs) = ap (joined f₀ g₀ (via f x)) (pieces_further_on f e xs) ∙ joined_further_on f e x (pieces f₀ g₀ xs)

  shut_piece_further_on : (f : ℕ) → is_door f₀ g₀ f ≡ false → (k : Piece) → shut_piece f₀ g₀ (piece_via f k) ≡ via f (shut_piece f₀ g₀ k)
  unfolding is_run door_row
  shut_piece_further_on f e k = by_run (is_run f₀ g₀ k) refl
    where
      p : List ℕ
      p = k.first.route

      by_run : (b : Bool) → is_run f₀ g₀ k ≡ b → shut_piece f₀ g₀ (piece_via f k) ≡ via f (shut_piece f₀ g₀ k)
      by_run true c =
          a_run_is_shut (piece_via f k) (crosses_later f₀ g₀ f e p ∙ c)
          ∙ rw (seen_later f₀ g₀ f e p, one_more_before f₀ g₀ f e p, last_further_on f k.first k.others) refl
          ∙ sym (ap (via f) (a_run_is_shut k c))
      by_run false c = another_row_stays (piece_via f k) (crosses_later f₀ g₀ f e p ∙ c) ∙ sym (ap (via f) (another_row_stays k c))

  pub shut_rows_further_on : (f : ℕ) → is_door f₀ g₀ f ≡ false → (xs : List Routed) → shut_rows f₀ g₀ (map (via f) xs) ≡ map (via f) (shut_rows f₀ g₀ xs)
  unfolding shut_rows
  shut_rows_further_on f e xs =
      ap (map (shut_piece f₀ g₀)) (pieces_further_on f e xs)
      ∙ map-map (shut_piece f₀ g₀) (piece_via f) (pieces f₀ g₀ xs)
      ∙ ap (λ (h : Piece → Routed). map h (pieces f₀ g₀ xs)) (fun_ext (shut_piece_further_on f e))
      ∙ sym (map-map (via f) (shut_piece f₀ g₀) (pieces f₀ g₀ xs))

  -- ---- side by side

  -- no row of xs has the route of a row of ys, up to and including the door
  abbrev pub Apart : List Routed → List Routed → Type 0
  Apart xs ys = (x y : Routed) (i j : ℕ) → At x xs i → At y ys j → same_to_door f₀ g₀ x.route y.route ≡ false

  -- visits by different routes stay apart, also where they are adjacent
  pub pieces_of_both : (xs ys : List Routed) → Apart xs ys → pieces f₀ g₀ (xs ++ ys) ≡ pieces f₀ g₀ xs ++ pieces f₀ g₀ ys
  unfolding pieces joined
  pieces_of_both [] ys apart = refl
  pieces_of_both (x ∷ []) [] apart = unfold joined in refl
  pieces_of_both (x ∷ []) (y ∷ ys) apart =
      let (zs, ks, e) = first_piece y ys in
      rw e (stays_alone x (record { first = y; others = zs }) ks (apart x y zero zero first first))
  pieces_of_both (x ∷ x' ∷ xs) ys apart =
      let (zs, ks, e) = first_piece x' xs in
      ap (joined f₀ g₀ x) (pieces_of_both (x' ∷ xs) ys (λ a b i j p q. apart a b (suc i) j (later p) q))
      ∙ rw e (in_front_of_both (record { first = x'; others = zs }) ks)
    where
      in_front_of_both : (k : Piece) (ks : List Piece) → joined f₀ g₀ x (k ∷ (ks ++ pieces f₀ g₀ ys)) ≡ joined f₀ g₀ x (k ∷ ks) ++ pieces f₀ g₀ ys
      in_front_of_both k ks = by_test (same_to_door f₀ g₀ x.route k.first.route) refl
        where
          by_test : (b : Bool) → same_to_door f₀ g₀ x.route k.first.route ≡ b
              → joined f₀ g₀ x (k ∷ (ks ++ pieces f₀ g₀ ys)) ≡ joined f₀ g₀ x (k ∷ ks) ++ pieces f₀ g₀ ys
          by_test true t = rw (joins x k (ks ++ pieces f₀ g₀ ys) t, joins x k ks t)
          by_test false t = rw (stays_alone x k (ks ++ pieces f₀ g₀ ys) t, stays_alone x k ks t)

  pub shut_rows_of_both : (xs ys : List Routed) → Apart xs ys → shut_rows f₀ g₀ (xs ++ ys) ≡ shut_rows f₀ g₀ xs ++ shut_rows f₀ g₀ ys
  unfolding shut_rows
  shut_rows_of_both xs ys apart = rw (pieces_of_both xs ys apart) (map-append (shut_piece f₀ g₀) (pieces f₀ g₀ xs) (pieces f₀ g₀ ys))

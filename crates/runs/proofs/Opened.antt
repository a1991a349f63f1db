-- The listing on which sight goes on is the listing on which it is stopped, each row where it is stopped replaced by its run: opening is the reverse of shutting,
-- and a longer reach opens the rows that are out of the shorter one.
use mathlib.Core.Bool.{Bool, true, false}
use mathlib.Core.List.{List, [], ◌∷◌, ◌++◌, map, append-nil, append_assoc, map-append, map-map, map-id}
use mathlib.Core.Path.{◌≡◌, refl, sym, ◌∙◌, ap}
use Prim.Native.Nat.{ℕ, suc, ◌-◌, ◌<◌}
use native.Mathlib.Omega.{arith}
use lib.ListN.{length}
use Rattle.fan.specs.Sight.{Floor, Sight, Standing, follow, lines_around, unentered, seen_from}
use Rattle.fan.specs.Sight.Sight.{row}
use Rattle.fan.specs.Once.{At}
use Rattle.runs.specs.Route.{Routed, via, routed}
use Rattle.runs.specs.Opening.{behind, run_of, open_rows}
use Rattle.runs.specs.Floors.{ending, Stops, Faces}
use Rattle.runs.proofs.SideBySide.{listings_side_by_side}

module _ (F : Floor) (stops : ℕ → Bool) where
  module _ (n : ℕ) (x : Routed) (xs : List Routed) where
    pub opened_where_stopped : stops x.row.face ≡ true → open_rows F stops n (x ∷ xs) ≡ run_of F n x ++ open_rows F stops n xs
    unfolding open_rows
    opened_where_stopped d = rw (d, open_rows)

    pub left_elsewhere : stops x.row.face ≡ false → open_rows F stops n (x ∷ xs) ≡ x ∷ open_rows F stops n xs
    unfolding open_rows
    left_elsewhere d = rw (d, open_rows)

  open_rows_of_both : (n : ℕ) (xs ys : List Routed) → open_rows F stops n (xs ++ ys) ≡ open_rows F stops n xs ++ open_rows F stops n ys
  unfolding open_rows
  open_rows_of_both n [] ys = refl
  open_rows_of_both n (x ∷ xs) ys = by_test (open_rows_of_both n xs ys) (stops x.row.face) refl
    where
      by_test : open_rows F stops n (xs ++ ys) ≡ open_rows F stops n xs ++ open_rows F stops n ys → (b : Bool) → stops x.row.face ≡ b
          → open_rows F stops n (x ∷ (xs ++ ys)) ≡ open_rows F stops n (x ∷ xs) ++ open_rows F stops n ys
      by_test ih true d =
          rw (opened_where_stopped n x (xs ++ ys) d, opened_where_stopped n x xs d, ih) (sym (append_assoc (run_of F n x) _ _))
      by_test ih false d = rw (left_elsewhere n x (xs ++ ys) d, left_elsewhere n x xs d, ih)

  -- one line more on every route leaves one crossing fewer
  run_further_on : (n f : ℕ) (x : Routed) → run_of F (suc n) (via f x) ≡ map (via f) (run_of F n x)
  unfolding run_of
  run_further_on n f x =
      let fewer : suc n - suc (length x.route) ≡ n - length x.route = omega arith in
      rw fewer (sym (map-map (via f) (behind x.route) (routed (follow F (n - length x.route) x.row.face x.row.right x.row.left))))

  open_rows_further_on : (n f : ℕ) (xs : List Routed) → open_rows F stops (suc n) (map (via f) xs) ≡ map (via f) (open_rows F stops n xs)
  unfolding open_rows
  open_rows_further_on n f [] = refl
  open_rows_further_on n f (x ∷ xs) = by_test (open_rows_further_on n f xs) (stops x.row.face) refl
    where
      by_test : open_rows F stops (suc n) (map (via f) xs) ≡ map (via f) (open_rows F stops n xs) → (b : Bool) → stops x.row.face ≡ b
          → open_rows F stops (suc n) (via f x ∷ map (via f) xs) ≡ map (via f) (open_rows F stops n (x ∷ xs))
      by_test ih true d =
          rw (opened_where_stopped (suc n) (via f x) (map (via f) xs) d, opened_where_stopped n x xs d, ih, run_further_on n f x)
          (sym (map-append (via f) (run_of F n x) (open_rows F stops n xs)))
      by_test ih false d = rw (left_elsewhere (suc n) (via f x) (map (via f) xs) d, left_elsewhere n x xs d, ih)

  run_of_a_row : (n f r l k : ℕ) → stops f ≡ true → open_rows F stops n (routed (row f r l k)) ≡ routed (follow F n f r l)
  unfolding routed open_rows run_of
  run_of_a_row n f r l k d =
      let all : n - 0 ≡ n = omega arith in
      opened_where_stopped n _ [] d ∙ append-nil _ ∙ map-id _ ∙ ap (λ (k : ℕ). routed (follow F k f r l)) all

  row_elsewhere : (n f r l k : ℕ) → stops f ≡ false → open_rows F stops n (routed (row f r l k)) ≡ routed (row f r l k)
  unfolding routed open_rows
  row_elsewhere n f r l k d = left_elsewhere n _ [] d

module _ {N : ℕ} (F : Floor) {stops ends : ℕ → Bool} {far : ℕ → ℕ} (S : Stops N F stops ends far) (A : Faces N F) where
  abbrev OpenedRows : ℕ → Sight → Sight → Type 0
  OpenedRows n t t' = routed t ≡ open_rows F stops n (routed t')

  pub open_rows_are_opened :
      (M : ℕ) (p : Standing) → 0 < length (lines_around F p) → ((e i : ℕ) → At e (lines_around F p) i → e < N) →
      routed (seen_from F M p) ≡ open_rows F stops (unentered M p) (routed (seen_from (ending F ends far) M p))
  unfolding routed open_rows
  open_rows_are_opened M p some faces =
      listings_side_by_side F S A OpenedRows (λ n f r l k d. sym (row_elsewhere F stops n f r l k d)) refl
      (λ n f r l d. sym (run_of_a_row F stops n f r l (far f) d))
      (λ n f r l t t' d p. ap (map (via f)) p ∙ sym (open_rows_further_on F stops n f (routed t')))
      (λ n t t' u u' p q. rw (p, q) (sym (open_rows_of_both F stops n (routed t') (routed u'))))
      M p some faces

-- What a search for overlapping cells has found: one pair more, and one cell of a list more.
use mathlib.Core.Bool.{Bool, true, false}
use mathlib.Core.List.{List}
use mathlib.Core.Path.{◌≡◌, refl, ◌∙◌}
use Prim.Native.Nat.{ℕ, min, ◌+◌, ◌≤◌, ◌<◌}
use native.Mathlib.Decide.{dec_lt, ℕ_discrete}
use native.Mathlib.Omega.{arith}
use lib.IntN.{ℤ}
use lib.ListN.{length, get_or}
use Rattle.std.specs.Prelude.{Option, Some, None}
use Rattle.std.specs.Bool.{⊤}
use Rattle.std.specs.Option.{MatchOption}
use Rattle.cells.specs.Lists.{Cells}
use Rattle.cells.specs.Check.{overlapping, in_a_pair}
use Rattle.cells.proofs.Least.{not_both}
use Rattle.overlap.specs.Search.{Apart, Passes, Found, Against, SettlesBelow, Settles}
use Rattle.overlap.proofs.Pairs.{not_itself, overlap_back}

-- ---- in place of the best so far

module _ {cs : List ℤ} {T : Cells} where
  pub nothing_new : (best : ℕ) → Found cs T best best
  nothing_new best = record { no_greater = omega arith; in_one = λ other. absurd (other refl) }

  -- the lesser of two cells that are in a pair, where it is less than the best
  pub the_lesser : (c e : ℕ) {best l r : ℕ} → in_a_pair cs T c ≡ true → in_a_pair cs T e ≡ true → l ≡ min c e → r ≡ min best l → Found cs T best r
  the_lesser c e {best} {l} {r} p q is_l is_r =
      record { no_greater = omega (arith, is_r); in_one = λ other. by_place other (ℕ_discrete r c) (ℕ_discrete r e) }
    where
      by_place : (r ≡ best → ⊥) → Dec (r ≡ c) → Dec (r ≡ e) → in_a_pair cs T r ≡ true
      by_place other (yes h) k = rw h p
      by_place other (no h) (yes k) = rw k q
      by_place other (no h) (no k) = absurd (omega (arith, is_l, is_r, other, h, k))

  pub found_then : {best r q : ℕ} → Found cs T best r → Found cs T r q → Found cs T best q
  found_then {best} {r} {q} F G =
      record { no_greater = omega (arith, F.no_greater, G.no_greater); in_one = λ other. by_place other (ℕ_discrete q r) }
    where
      by_place : (q ≡ best → ⊥) → Dec (q ≡ r) → in_a_pair cs T q ≡ true
      by_place other (yes e) = rw e (F.in_one (λ k. other (e ∙ k)))
      by_place other (no e) = G.in_one e

-- ---- two cells that are passed

module _ (cs : List ℤ) (T : Cells) (c e : ℕ) where
  pub apart_passes : {r : ℕ} → overlapping cs T c e ≡ false → Passes cs T r c e
  apart_passes none over = absurd (not_both over none)

  pub passes_below : {r q : ℕ} → q ≤ r → Passes cs T r c e → Passes cs T q c e
  passes_below h P over = (omega (arith, P over), omega (arith, P over))

  pub passes_back : {r : ℕ} → Passes cs T r e c → Passes cs T r c e
  passes_back P over = let both = P (overlap_back cs T c e over) in (both.1, both.0)

-- ---- a cell and the cells of a list that it does not overlap

-- those before the first place at which a test holds, where none at whose place it fails overlaps the cell
pub apart_before : (cs : List ℤ) (T : Cells) (xs : List ℕ) (c : ℕ) {n : ℕ} (t : ℕ → Bool) → ((k : ℕ) → k < length xs → t k ≡ false → overlapping cs T c (get_or xs k 0) ≡ false) → n ≤ length xs → (r : Option ℕ) → MatchOption r ((k : ℕ) → n ≤ k → k < length xs → t k ≡ false) (λ i. (n ≤ i) × (i < length xs) × ⊤ × ((k : ℕ) → n ≤ k → k < i → t k ≡ false)) → MatchOption r (Apart cs T xs c n (length xs)) (λ i. (i < length xs) × Apart cs T xs c n i)
apart_before cs T xs c t apart h None fails = record { not_before = h; at_most = omega arith; none = λ k l m. apart k m (fails k l m) }
apart_before cs T xs c t apart h (Some i) m =
    (m.1, record { not_before = m.0; at_most = omega (arith, m.1); none = λ k l n. apart k (omega (arith, m.1)) (m.3 k l n) })

-- ---- one cell of a list against those after it

module _ {cs : List ℤ} {T : Cells} {xs : List ℕ} {s n best : ℕ} where
  pub against_those_apart : {u w r : ℕ} → Against cs T xs s n u best r → Apart cs T xs (get_or xs s 0) u w → Against cs T xs s n w best r
  against_those_apart {u} {w} {r} G A = record { found = G.found; passes = λ j k l. by_place j k l (dec_lt j u) }
    where
      by_place : (j : ℕ) → n ≤ j → j < w → Dec (j < u) → Passes cs T r (get_or xs s 0) (get_or xs j 0)
      by_place j k l (yes m) = G.passes j k m
      by_place j k l (no m) = apart_passes cs T _ _ (A.none j (omega arith) l)

  pub against_one_more : {u r q : ℕ} → Against cs T xs s n u best r → Found cs T r q → Passes cs T q (get_or xs s 0) (get_or xs u 0) → Against cs T xs s n (u + 1) best q
  against_one_more {u} {r} {q} G F P =
      record { found = found_then G.found F; passes = λ j k l. by_place j k l (dec_lt j u) }
    where
      by_place : (j : ℕ) → n ≤ j → j < u + 1 → Dec (j < u) → Passes cs T q (get_or xs s 0) (get_or xs j 0)
      by_place j k l (yes m) = passes_below cs T _ _ F.no_greater (G.passes j k m)
      by_place j k l (no m) = let same : j ≡ u = omega arith in rw same P

-- ---- every two cells of a list

module _ {cs : List ℤ} {T : Cells} {xs : List ℕ} {best : ℕ} where
  pub settles_all : {s r : ℕ} → SettlesBelow cs T xs s best r → length xs ≤ s → Settles cs T xs best r
  settles_all {s} {r} B all = record { found = B.found; passes = λ i j h k. by_order i j h k (dec_lt i j) (dec_lt j i) }
    where
      by_order : (i j : ℕ) → i < length xs → j < length xs → Dec (i < j) → Dec (j < i) → Passes cs T r (get_or xs i 0) (get_or xs j 0)
      by_order i j h k (yes l) m = B.passes i j (omega arith) l k
      by_order i j h k (no l) (yes m) = passes_back cs T _ _ (B.passes j i (omega arith) m h)
      by_order i j h k (no l) (no m) = let same : i ≡ j = omega arith in apart_passes cs T _ _ (rw same (not_itself cs T _ _ refl))

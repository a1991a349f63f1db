-- What every expansion has, over any floor: what its counts have to do with each other.
use mathlib.Core.Bool.{Bool, true, false}
use mathlib.Core.List.{List, [], ◌∷◌}
use mathlib.Core.Path.{◌≡◌, refl}
use Prim.Native.Nat.{ℕ, zero, suc, ◌*◌, ◌≤◌, ◌<◌}
use native.Mathlib.Nat.{mul-suc, add-mul}
use native.Mathlib.Omega.{arith}
use lib.ListN.{length, length-append}
use Rattle.fan.specs.Sight.{Floor, Place, Sight, fan, follow, hand_on, lines_seen, row_count, crossings, rows, Whole}
use Rattle.fan.specs.Sight.Place.{between, right_of_r, left_of_l}
use Rattle.fan.specs.Sight.Sight.{row, pass, both, cut}
use Rattle.fan.specs.Sight.Whole.{whole_row, whole_pass, whole_both}
use Rattle.fan.specs.Once.{At}
use Rattle.fan.specs.Once.At.{first, later}
use Rattle.fan.proofs.Trees.{follow_a_wall, follow_too_far, follow_across, hand_on_is_a_fan, fan_last, fan_both, fan_skips, fan_ends}

-- ---- every expansion

module _ (F : Floor) where
  -- what splits keep, a fan of lines that have it has
  module _ (P : Sight → Type 0) (over_a_split : (t u : Sight) → P t → P u → P (both t u)) where
    pub every_fan : (on : ℕ → ℕ → ℕ → Sight) → ((e r l : ℕ) → P (on e r l)) → (m e r l : ℕ) → P (fan F on m e r l)
    every_fan on lines zero e r l = rw (fan_last F on e r l) (lines e r l)
    every_fan on lines (suc m) e r l = by_place (every_fan on lines m (F.next e)) (F.place (F.left_end e) r l) refl
      where
        by_place : ((r l : ℕ) → P (fan F on m (F.next e) r l)) → (p : Place) → F.place (F.left_end e) r l ≡ p → P (fan F on (suc m) e r l)
        by_place rest between p = rw (fan_both F on m e r l p) (over_a_split _ _ (lines e r (F.left_end e)) (rest (F.left_end e) l))
        by_place rest right_of_r p = rw (fan_skips F on m e r l p) (rest r l)
        by_place rest left_of_l p = rw (fan_ends F on m e r l p) (lines e r l)

    -- so have lines one behind the other
    pub over_lines : (n : ℕ) (es : List ℕ) → 0 < length es → ((e i : ℕ) → At e es i → P (follow F n e (F.right_end e) (F.left_end e))) → P (lines_seen F n es)
    unfolding lines_seen
    over_lines n [] h each = absurd (omega arith)
    over_lines n (e ∷ []) h each = each e 0 first
    over_lines n (e ∷ x ∷ es) h each = over_a_split _ _ (each e 0 first) (over_lines n (x ∷ es) (omega arith) (λ y i p. each y (suc i) (later p)))

  -- what rows and a crossing too many have, and what passages and splits keep, every expansion has
  module _ (P : ℕ → Sight → Type 0) (at_a_row : (n f r l k : ℕ) → P n (row f r l k)) (at_a_cut : P zero cut)
      (over_a_passage : (n f r l : ℕ) (t : Sight) → P n t → P (suc n) (pass f r l t)) (over_a_split : (n : ℕ) (t u : Sight) → P n t → P n u → P n (both t u)) where
    pub every_expansion : (n f r l : ℕ) → P n (follow F n f r l)
    every_expansion zero f r l = by_end (F.ends f) refl
      where
        by_end : (b : Bool) → F.ends f ≡ b → P zero (follow F zero f r l)
        by_end true e = rw (follow_a_wall F zero f r l e) (at_a_row zero f r l (F.far f))
        by_end false e = rw (follow_too_far F f r l e) at_a_cut
    every_expansion (suc n) f r l = by_end (every_expansion n) (F.ends f) refl
      where
        handed_on : ((f r l : ℕ) → P n (follow F n f r l)) → (g : ℕ) → P n (hand_on F n g r l)
        handed_on ih g = rw (hand_on_is_a_fan F n g r l) (every_fan (P n) (over_a_split n) (follow F n) ih (F.more g) (F.next g) r l)

        by_end : ((f r l : ℕ) → P n (follow F n f r l)) → (b : Bool) → F.ends f ≡ b → P (suc n) (follow F (suc n) f r l)
        by_end ih true e = rw (follow_a_wall F (suc n) f r l e) (at_a_row (suc n) f r l (F.far f))
        by_end ih false e = rw (follow_across F n f r l e) (over_a_passage n f r l _ (handed_on ih (F.back f)))

-- ---- counts

pub row_count_counts_the_rows : (t : Sight) → row_count t ≡ length (rows t)
unfolding rows row_count
row_count_counts_the_rows (row f r l k) = refl
row_count_counts_the_rows (pass f r l t) = row_count_counts_the_rows t
row_count_counts_the_rows (both t u) =
    let h = row_count_counts_the_rows t in
    let k = row_count_counts_the_rows u in
    omega (arith, length-append (rows t) (rows u))
row_count_counts_the_rows cut = refl

-- a whole tree has a row
pub whole_has_a_row : {t : Sight} → Whole t → 0 < row_count t
unfolding row_count
whole_has_a_row whole_row = omega arith
whole_has_a_row (whole_pass w) = whole_has_a_row w
whole_has_a_row (whole_both w v) = omega (arith, whole_has_a_row w)

-- crossings never exceed rows times fuel (01: rows times one less than the cells, the fuel at the start)
module _ (F : Floor) where
  abbrev Few : ℕ → Sight → Type 0
  Few n t = Whole t → crossings t ≤ row_count t * n

  few_over_a_split : (n : ℕ) (t u : Sight) → Few n t → Few n u → Few n (both t u)
  unfolding crossings row_count
  few_over_a_split n t u h k (whole_both w v) = omega (arith, h w, k v, add-mul (row_count t) (row_count u) n)

  pub crossings_at_most_rows_times_fuel : (n f r l : ℕ) → Whole (follow F n f r l) → crossings (follow F n f r l) ≤ row_count (follow F n f r l) * n
  unfolding crossings row_count
  crossings_at_most_rows_times_fuel = every_expansion F Few at_a_row at_a_cut over_a_passage few_over_a_split
    where
      at_a_row : (n f r l k : ℕ) → Few n (row f r l k)
      at_a_row n f r l k w = omega arith

      at_a_cut : Few zero cut
      at_a_cut w = omega arith

      over_a_passage : (n f r l : ℕ) (t : Sight) → Few n t → Few (suc n) (pass f r l t)
      over_a_passage n f r l t h (whole_pass w) = omega (arith, h w, whole_has_a_row w, mul-suc (row_count t) n)

  -- so do those of lines one behind the other
  pub crossings_of_lines_at_most_rows_times_fuel :
      (n : ℕ) (es : List ℕ) → 0 < length es → Whole (lines_seen F n es) → crossings (lines_seen F n es) ≤ row_count (lines_seen F n es) * n
  crossings_of_lines_at_most_rows_times_fuel n es h =
      over_lines F (Few n) (few_over_a_split n) n es h (λ e i p. crossings_at_most_rows_times_fuel n e (F.right_end e) (F.left_end e))

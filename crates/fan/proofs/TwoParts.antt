-- Lines one behind the other, followed in two parts: the same rows, counts and crossings as followed at once.
use mathlib.Core.List.{List, [], ◌∷◌, ◌++◌, append_assoc}
use mathlib.Core.Path.{◌≡◌, refl, ◌∙◌, ap}
use Prim.Native.Nat.{ℕ, zero, suc, ◌<◌}
use native.Mathlib.Omega.{arith}
use lib.ListN.{length}
use Rattle.fan.specs.Sight.{Floor, Sight, sides, lines_seen, follow, numbers, row_count, crossings, Whole}
use Rattle.fan.specs.Sight.Sight.{both}
use Rattle.fan.specs.Sight.Whole.{whole_both}

-- t has the rows and crossings of u, and nothing of it is cut where nothing of u is
pub record ListsAs (t u : Sight) : Type 0 where
  pub same_numbers : numbers t ≡ numbers u
  pub same_count : row_count t ≡ row_count u
  pub same_crossings : crossings t ≡ crossings u
  pub whole_too : Whole u → Whole t

pub lists_as_itself : {t u : Sight} → t ≡ u → ListsAs t u
lists_as_itself e = rw e (record { same_numbers = refl; same_count = refl; same_crossings = refl; whole_too = λ w. w })

module _ (F : Floor) (n : ℕ) where
  -- a line in front of some sides
  pub in_front_of_sides : (m e f : ℕ) → lines_seen F n (f ∷ sides F.next m e) ≡ both (follow F n f (F.right_end f) (F.left_end f)) (lines_seen F n (sides F.next m e))
  unfolding lines_seen sides
  in_front_of_sides zero e f = refl
  in_front_of_sides (suc m) e f = refl

  pub two_parts : (xs ys : List ℕ) → 0 < length xs → 0 < length ys → ListsAs (both (lines_seen F n xs) (lines_seen F n ys)) (lines_seen F n (xs ++ ys))
  unfolding lines_seen numbers row_count crossings
  two_parts [] ys h k = absurd (omega arith)
  two_parts (e ∷ []) [] h k = absurd (omega arith)
  two_parts (e ∷ []) (y ∷ ys) h k = lists_as_itself refl
  two_parts (e ∷ x ∷ xs) ys h k =
      let s = two_parts (x ∷ xs) ys (omega arith) k in
      record {
        same_numbers = append_assoc (numbers one) (numbers (lines_seen F n (x ∷ xs))) (numbers (lines_seen F n ys)) ∙ ap (λ (l : List ℕ). numbers one ++ l) s.same_numbers;
        same_count = omega (arith, s.same_count);
        same_crossings = omega (arith, s.same_crossings);
        whole_too = λ w. regroup s w;
      }
    where
      one : Sight
      one = follow F n e (F.right_end e) (F.left_end e)

      regroup : ListsAs (both (lines_seen F n (x ∷ xs)) (lines_seen F n ys)) (lines_seen F n (x ∷ xs ++ ys)) → Whole (both one (lines_seen F n (x ∷ xs ++ ys))) → Whole (both (both one (lines_seen F n (x ∷ xs))) (lines_seen F n ys))
      regroup s (whole_both a b) = split (s.whole_too b)
        where
          split : Whole (both (lines_seen F n (x ∷ xs)) (lines_seen F n ys)) → Whole (both (both one (lines_seen F n (x ∷ xs))) (lines_seen F n ys))
          split (whole_both c d) = whole_both (whole_both a c) d

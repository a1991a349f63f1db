-- Laws of the tree of rows and passages, over any floor: its equations, and how many numbers its rows are.
use mathlib.Core.Bool.{true, false}
use mathlib.Core.Path.{◌≡◌, refl}
use Prim.Native.Nat.{ℕ, zero, suc, ◌*◌}
use native.Mathlib.Omega.{arith}
use lib.ListN.{length, length-append}
use Rattle.fan.specs.Sight.{Floor, Sight, fan, follow, hand_on, numbers, row_count}
use Rattle.fan.specs.Sight.Place.{between, right_of_r, left_of_l}
use Rattle.fan.specs.Sight.Sight.{row, pass, both, cut}

-- ---- the equations of the expansion

module _ (F : Floor) where
  pub follow_a_wall : (n f r l : ℕ) → F.ends f ≡ true → follow F n f r l ≡ row f r l (F.far f)
  unfolding follow
  follow_a_wall zero f r l e = rw (e, follow)
  follow_a_wall (suc n) f r l e = rw (e, follow)

  pub follow_too_far : (f r l : ℕ) → F.ends f ≡ false → follow F zero f r l ≡ cut
  unfolding follow
  follow_too_far f r l e = rw (e, follow)

  pub follow_across : (n f r l : ℕ) → F.ends f ≡ false → follow F (suc n) f r l ≡ pass f r l (hand_on F n (F.back f) r l)
  unfolding follow hand_on
  follow_across n f r l e = rw (e, follow)

  pub hand_on_is_a_fan : (n g r l : ℕ) → hand_on F n g r l ≡ fan F (follow F n) (F.more g) (F.next g) r l
  unfolding hand_on
  hand_on_is_a_fan n g r l = refl

  module _ (on : ℕ → ℕ → ℕ → Sight) where
    pub fan_last : (e r l : ℕ) → fan F on zero e r l ≡ on e r l
    unfolding fan
    fan_last e r l = refl

    pub fan_both :
        (m e r l : ℕ) → F.place (F.left_end e) r l ≡ between →
        fan F on (suc m) e r l ≡ both (on e r (F.left_end e)) (fan F on m (F.next e) (F.left_end e) l)
    unfolding fan
    fan_both m e r l p = rw (p, fan)

    pub fan_skips : (m e r l : ℕ) → F.place (F.left_end e) r l ≡ right_of_r → fan F on (suc m) e r l ≡ fan F on m (F.next e) r l
    unfolding fan
    fan_skips m e r l p = rw (p, fan)

    pub fan_ends : (m e r l : ℕ) → F.place (F.left_end e) r l ≡ left_of_l → fan F on (suc m) e r l ≡ on e r l
    unfolding fan
    fan_ends m e r l p = rw (p, fan)

-- ---- counts

-- four numbers a row
pub four_numbers_a_row : (t : Sight) → length (numbers t) ≡ 4 * row_count t
unfolding numbers row_count
four_numbers_a_row (row f r l k) = refl
four_numbers_a_row (pass f r l t) = four_numbers_a_row t
four_numbers_a_row (both t u) =
    let h = four_numbers_a_row t in
    let k = four_numbers_a_row u in
    omega (arith, length-append (numbers t) (numbers u))
four_numbers_a_row cut = refl

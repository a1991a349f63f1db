-- Laws of the door setting: a door that is shut or opened, the others, wrong settings, and where sight ends.
use mathlib.Core.Bool.{Bool, true, false, not, ◌&&◌, ◌||◌, and-false, or-true, or_comm}
use mathlib.Core.List.{List}
use mathlib.Core.Logic.{◌↔◌}
use mathlib.Core.Path.{◌≡◌, refl, sym, ap, ◌∙◌, subst, fun_ext}
use Prim.Native.Nat.{ℕ, zero, suc, ◌+◌, ◌-◌, ◌*◌, ◌/◌, ◌%◌, ◌^◌, ◌≤◌, ◌<◌, min}
use native.Mathlib.Nat.{pow-suc, div-one, div-eq_of_lt, le-div_iff_mul-le, zero-mul, one-mul, le_trans}
use native.Mathlib.Numerals.{one-add}
use native.Mathlib.Decide.{dec_lt, ℕ_discrete}
use native.Mathlib.Omega.{arith}
use borrow.Author.Tests.{eq-eqb, ne_eqb, lt-ltb, le-ltb, eqb-true, eqb-false, ltb-false, not-true}
use lib.Arith.{bin_ind}
use lib.Bits.{bit_and, bit_or, and_high, and_le_l, and_step, or_add_and, or_lt}
use lib.Dec.{eqb, ltb, lit<}
use lib.IntN.{ℤ}
use lib.ListN.{length, get_or}
use lib.Pow.{pow_pos, pow_mono, pow-lt, shl_exact, shr-shr}
use Rattle.limits.specs.Limits.{wall}
use Rattle.cells.specs.Least.{least}
use Rattle.cells.specs.Lists.{Cells, face_count, neighbour, back}
use Rattle.cells.specs.Check.{names}
use Rattle.cells.specs.Sound.{Sound}
use Rattle.setting.specs.Setting.{shut, with_shut, with_open, wrong_setting, bars, ends}
use Rattle.cells.proofs.Least.{not_both, none_holds, least_is_none}
use Rattle.cells.proofs.Plans.{back_is_free, back_of_back}
use Rattle.cells.proofs.Doors.{names_the_face, names_the_back, names_neither}

-- ---- bit by bit

-- bit 0 is the remainder by 2, and the bits above are those of the half
shut_zero : (w : ℕ) → shut w 0 ≡ eqb (w % 2) 1
unfolding shut
shut_zero w = ap (λ (x : ℕ). eqb (x % 2) 1) (div-one w)

shut_suc : (w i : ℕ) → shut w (suc i) ≡ shut (w / 2) i
unfolding shut
shut_suc w i = ap (λ (x : ℕ). eqb (x % 2) 1) (ap (λ (k : ℕ). w / 2 ^ k) (sym (one-add i)) ∙ sym (shr-shr w 1 i))

-- the bits from k on are those of what the shift by k leaves
shut_shifted : (w k i : ℕ) → shut (w / 2 ^ k) i ≡ shut w (k + i)
unfolding shut
shut_shifted w k i = ap (λ (x : ℕ). eqb (x % 2) 1) (shr-shr w k i)

module _ (w i : ℕ) where
  bit_is_one : shut w i ≡ true → w / 2 ^ i % 2 ≡ 1
  unfolding shut
  bit_is_one e = eqb-true _ _ e

  bit_is_nought : shut w i ≡ false → w / 2 ^ i % 2 ≡ 0
  unfolding shut
  bit_is_nought e = let not_one : w / 2 ^ i % 2 ≡ 1 → ⊥ = eqb-false _ _ e in omega arith

  -- a bit that is one is part of the number
  pub shut_is_held : shut w i ≡ true → 2 ^ i ≤ w
  shut_is_held e =
      let h : 1 ≤ w / 2 ^ i = omega (arith, bit_is_one e) in
      rw one-mul at ((le-div_iff_mul-le (pow_pos i)).0 h)

  -- what the changes are, by the door's state
  pub shut_stays : shut w i ≡ true → with_shut w i ≡ w
  unfolding with_shut
  shut_stays e = rw (e, with_shut)

  pub shut_is_added : shut w i ≡ false → with_shut w i ≡ w + 2 ^ i
  unfolding with_shut
  shut_is_added e = rw (e, with_shut)

  pub open_stays : shut w i ≡ false → with_open w i ≡ w
  unfolding with_open
  open_stays e = rw (e, with_open)

  pub open_is_taken : shut w i ≡ true → with_open w i ≡ w - 2 ^ i
  unfolding with_open
  open_is_taken e = rw (e, with_open)

-- the lowest bit, shut or opened, leaves the half as it was
module _ (w : ℕ) where
  lowest_shut : (with_shut w 0 % 2 ≡ 1) × (with_shut w 0 / 2 ≡ w / 2)
  lowest_shut = by_state (shut w 0) refl
    where
      by_state : (b : Bool) → shut w 0 ≡ b → (with_shut w 0 % 2 ≡ 1) × (with_shut w 0 / 2 ≡ w / 2)
      by_state true e = omega (arith, shut_stays w 0 e, bit_is_one w 0 e)
      by_state false e = omega (arith, shut_is_added w 0 e, bit_is_nought w 0 e)

  lowest_open : (with_open w 0 % 2 ≡ 0) × (with_open w 0 / 2 ≡ w / 2)
  lowest_open = by_state (shut w 0) refl
    where
      by_state : (b : Bool) → shut w 0 ≡ b → (with_open w 0 % 2 ≡ 0) × (with_open w 0 / 2 ≡ w / 2)
      by_state true e = omega (arith, open_is_taken w 0 e, bit_is_one w 0 e)
      by_state false e = omega (arith, open_stays w 0 e, bit_is_nought w 0 e)

-- a higher bit, shut or opened, is the half's, and leaves the lowest
module _ (w i : ℕ) where
  higher_shut : (with_shut w (suc i) % 2 ≡ w % 2) × (with_shut w (suc i) / 2 ≡ with_shut (w / 2) i)
  higher_shut = by_state (shut (w / 2) i) refl
    where
      by_state : (b : Bool) → shut (w / 2) i ≡ b → (with_shut w (suc i) % 2 ≡ w % 2) × (with_shut w (suc i) / 2 ≡ with_shut (w / 2) i)
      by_state true e = omega (arith, shut_stays w (suc i) (shut_suc w i ∙ e), shut_stays (w / 2) i e)
      by_state false e = omega (arith, pow-suc 2 i, shut_is_added w (suc i) (shut_suc w i ∙ e), shut_is_added (w / 2) i e)

  higher_open : (with_open w (suc i) % 2 ≡ w % 2) × (with_open w (suc i) / 2 ≡ with_open (w / 2) i)
  higher_open = by_state (shut (w / 2) i) refl
    where
      by_state : (b : Bool) → shut (w / 2) i ≡ b → (with_open w (suc i) % 2 ≡ w % 2) × (with_open w (suc i) / 2 ≡ with_open (w / 2) i)
      by_state true e = omega (arith, pow-suc 2 i, shut_is_held (w / 2) i e, open_is_taken w (suc i) (shut_suc w i ∙ e), open_is_taken (w / 2) i e)
      by_state false e = omega (arith, open_stays w (suc i) (shut_suc w i ∙ e), open_stays (w / 2) i e)

-- ---- a door shut or opened

pub shutting_shuts_the_door : (w i : ℕ) → shut (with_shut w i) i ≡ true
shutting_shuts_the_door w zero = shut_zero (with_shut w 0) ∙ ap (λ (x : ℕ). eqb x 1) (lowest_shut w).0
shutting_shuts_the_door w (suc i) =
    shut_suc (with_shut w (suc i)) i ∙ ap (λ (x : ℕ). shut x i) (higher_shut w i).1 ∙ shutting_shuts_the_door (w / 2) i

pub opening_opens_the_door : (w i : ℕ) → shut (with_open w i) i ≡ false
opening_opens_the_door w zero = shut_zero (with_open w 0) ∙ ap (λ (x : ℕ). eqb x 1) (lowest_open w).0
opening_opens_the_door w (suc i) =
    shut_suc (with_open w (suc i)) i ∙ ap (λ (x : ℕ). shut x i) (higher_open w i).1 ∙ opening_opens_the_door (w / 2) i

pub shutting_leaves_the_others : (w i j : ℕ) → (j ≡ i → ⊥) → shut (with_shut w i) j ≡ shut w j
shutting_leaves_the_others w zero zero other = absurd (other refl)
shutting_leaves_the_others w zero (suc j) other =
    shut_suc (with_shut w 0) j ∙ ap (λ (x : ℕ). shut x j) (lowest_shut w).1 ∙ sym (shut_suc w j)
shutting_leaves_the_others w (suc i) zero other =
    shut_zero (with_shut w (suc i)) ∙ ap (λ (x : ℕ). eqb x 1) (higher_shut w i).0 ∙ sym (shut_zero w)
shutting_leaves_the_others w (suc i) (suc j) other =
    shut_suc (with_shut w (suc i)) j ∙ ap (λ (x : ℕ). shut x j) (higher_shut w i).1
    ∙ shutting_leaves_the_others (w / 2) i j (λ e. other (ap suc e))
    ∙ sym (shut_suc w j)

pub opening_leaves_the_others : (w i j : ℕ) → (j ≡ i → ⊥) → shut (with_open w i) j ≡ shut w j
opening_leaves_the_others w zero zero other = absurd (other refl)
opening_leaves_the_others w zero (suc j) other =
    shut_suc (with_open w 0) j ∙ ap (λ (x : ℕ). shut x j) (lowest_open w).1 ∙ sym (shut_suc w j)
opening_leaves_the_others w (suc i) zero other =
    shut_zero (with_open w (suc i)) ∙ ap (λ (x : ℕ). eqb x 1) (higher_open w i).0 ∙ sym (shut_zero w)
opening_leaves_the_others w (suc i) (suc j) other =
    shut_suc (with_open w (suc i)) j ∙ ap (λ (x : ℕ). shut x j) (higher_open w i).1
    ∙ opening_leaves_the_others (w / 2) i j (λ e. other (ap suc e))
    ∙ sym (shut_suc w j)

-- each undoes the other
pub opening_undoes_shutting : (w i : ℕ) → shut w i ≡ false → with_open (with_shut w i) i ≡ w
opening_undoes_shutting w i e =
    omega (arith, open_is_taken (with_shut w i) i (shutting_shuts_the_door w i), shut_is_added w i e)

pub shutting_undoes_opening : (w i : ℕ) → shut w i ≡ true → with_shut (with_open w i) i ≡ w
shutting_undoes_opening w i e =
    omega (arith, shut_is_added (with_open w i) i (opening_opens_the_door w i), open_is_taken w i e, shut_is_held w i e)

-- ---- the changes as masks

-- `w & (1 << i)` is bit i in its place
one_bit : (w i : ℕ) → bit_and w (2 ^ i) ≡ w / 2 ^ i % 2 * 2 ^ i
one_bit w i =
    let same : 2 ^ i ≡ 2 ^ (1 + i) - 2 ^ i = omega (arith, ap (λ (k : ℕ). 2 ^ k) (one-add i) ∙ pow-suc 2 i) in
    ap (bit_and w) same ∙ and_high w 1 i

-- two words make up w when their halves make up w's half and their lowest bits make up w's
from_halves : (w a b p q : ℕ) {x y : ℕ} → x ≡ a * 2 + p → y ≡ b * 2 + q → a + b ≡ w / 2 → p + q ≡ w % 2 → x + y ≡ w
from_halves w a b p q h k l o = omega arith

one_bit_and_complement : (a b : ℕ) → a < 2 → b < 2 → min a b + min a (1 - b) ≡ a
one_bit_and_complement a b h l = omega arith

-- what a mask takes and what its complement in k bits leaves make up the word
mask_and_complement : (k w m : ℕ) → w < 2 ^ k → m < 2 ^ k → bit_and w m + bit_and w (2 ^ k - 1 - m) ≡ w
mask_and_complement zero w m h l = omega (arith, and_le_l w m, and_le_l w (2 ^ 0 - 1 - m))
mask_and_complement (suc k) w m h l =
    let half : (2 ^ suc k - 1 - m) / 2 ≡ 2 ^ k - 1 - m / 2 = omega (arith, pow-suc 2 k) in
    let lowest : (2 ^ suc k - 1 - m) % 2 ≡ 1 - m % 2 = omega (arith, pow-suc 2 k) in
    let halves = mask_and_complement k (w / 2) (m / 2) (omega (arith, pow-suc 2 k)) (omega (arith, pow-suc 2 k)) in
    from_halves w _ _ _ _ (and_step w m) (rw (half, lowest) at (and_step w (2 ^ suc k - 1 - m))) halves
    (one_bit_and_complement (w % 2) (m % 2) (omega arith) (omega arith))

-- `1 << i` in 64 bits
the_bit : (i : ℕ) → i < 64 → 1 * 2 ^ i % 2 ^ 64 ≡ 2 ^ i
the_bit i h = shl_exact 1 i 64 (lit< tt) (omega arith) ∙ one-mul (2 ^ i)

module _ (w i : ℕ) where
  held_in_common : shut w i ≡ true → bit_and w (2 ^ i) ≡ 2 ^ i
  held_in_common e = one_bit w i ∙ ap (λ (x : ℕ). x * 2 ^ i) (bit_is_one w i e) ∙ one-mul (2 ^ i)

  none_in_common : shut w i ≡ false → bit_and w (2 ^ i) ≡ 0
  none_in_common e = one_bit w i ∙ ap (λ (x : ℕ). x * 2 ^ i) (bit_is_nought w i e) ∙ zero-mul (2 ^ i)

  or_is_shutting : bit_or w (2 ^ i) ≡ with_shut w i
  or_is_shutting = by_state (shut w i) refl
    where
      by_state : (b : Bool) → shut w i ≡ b → bit_or w (2 ^ i) ≡ with_shut w i
      by_state true e = omega (arith, or_add_and w (2 ^ i), held_in_common e, shut_stays w i e)
      by_state false e = omega (arith, or_add_and w (2 ^ i), none_in_common e, shut_is_added w i e)

  pub or_shuts : i < 64 → bit_or w (1 * 2 ^ i % 2 ^ 64) ≡ with_shut w i
  or_shuts h = ap (bit_or w) (the_bit i h) ∙ or_is_shutting

  pub and_not_opens : i < 64 → w < 2 ^ 64 → bit_and w (2 ^ 64 - 1 - 1 * 2 ^ i % 2 ^ 64) ≡ with_open w i
  and_not_opens h small = ap (λ (m : ℕ). bit_and w (2 ^ 64 - 1 - m)) (the_bit i h) ∙ by_state (shut w i) refl
    where
      parts : bit_and w (2 ^ i) + bit_and w (2 ^ 64 - 1 - 2 ^ i) ≡ w
      parts = mask_and_complement 64 w (2 ^ i) small (pow-lt h)

      by_state : (b : Bool) → shut w i ≡ b → bit_and w (2 ^ 64 - 1 - 2 ^ i) ≡ with_open w i
      by_state true e = omega (arith, parts, held_in_common e, open_is_taken w i e)
      by_state false e = omega (arith, parts, none_in_common e, open_stays w i e)

  pub and_tests : i < 64 → not (eqb (bit_and w (1 * 2 ^ i % 2 ^ 64)) 0) ≡ shut w i
  and_tests h = ap (λ (m : ℕ). not (eqb (bit_and w m) 0)) (the_bit i h) ∙ by_state (shut w i) refl
    where
      by_state : (b : Bool) → shut w i ≡ b → not (eqb (bit_and w (2 ^ i)) 0) ≡ b
      by_state true e =
          let some : bit_and w (2 ^ i) ≡ 0 → ⊥ = omega (arith, held_in_common e, pow_pos i) in
          simp (ne_eqb _ _ some)
      by_state false e = simp (eq-eqb _ _ (none_in_common e))

  -- a setting for k doors stays one
  pub shutting_keeps_within : (k : ℕ) → i < k → w < 2 ^ k → with_shut w i < 2 ^ k
  shutting_keeps_within k h l = subst (λ (x : ℕ). x < 2 ^ k) or_is_shutting (or_lt k w (2 ^ i) l (pow-lt h))

  pub opening_keeps_within : (k : ℕ) → w < 2 ^ k → with_open w i < 2 ^ k
  opening_keeps_within k l = by_state (shut w i) refl
    where
      by_state : (b : Bool) → shut w i ≡ b → with_open w i < 2 ^ k
      by_state true e = omega (arith, open_is_taken w i e)
      by_state false e = omega (arith, open_stays w i e)

-- ---- wrong settings

-- a number above nought has a bit that is one
some_bit : (n : ℕ) → 0 < n → (j : ℕ) × (shut n j ≡ true)
some_bit = bin_ind (λ (n : ℕ). 0 < n → (j : ℕ) × (shut n j ≡ true)) (λ h. absurd (omega arith)) (λ n half h. by_half n half h (dec_lt 0 (n / 2)))
  where
    by_half : (n : ℕ) → (0 < n / 2 → (j : ℕ) × (shut (n / 2) j ≡ true)) → 0 < n → Dec (0 < n / 2) → (j : ℕ) × (shut n j ≡ true)
    by_half n half h (yes k) = let found = half k in (suc found.0, shut_suc n found.0 ∙ found.1)
    by_half n half h (no k) =
        let one : n % 2 ≡ 1 = omega arith in
        (0, shut_zero n ∙ eq-eqb _ _ one)

module _ (w k : ℕ) where
  pub a_bit_at_or_above_is_wrong : (j : ℕ) → k ≤ j → shut w j ≡ true → wrong_setting w k ≡ true
  unfolding wrong_setting
  a_bit_at_or_above_is_wrong j h e =
      let l : 2 ^ k ≤ w = le_trans (pow_mono h) (shut_is_held w j e) in
      simp (le-ltb _ _ l)

  pub a_wrong_setting_has_a_bit : w < 2 ^ 64 → wrong_setting w k ≡ true → (j : ℕ) × (k ≤ j) × (j < 64) × (shut w j ≡ true)
  unfolding wrong_setting
  a_wrong_setting_has_a_bit small e =
      let not_below : 2 ^ k ≤ w = ltb-false _ _ (not-true _ e) in
      let left : 0 < w / 2 ^ k = (le-div_iff_mul-le (pow_pos k)).1 (rw one-mul not_below) in
      let found = some_bit (w / 2 ^ k) left in
      let one : shut w (k + found.0) ≡ true = sym (shut_shifted w k found.0) ∙ found.1 in
      (k + found.0, omega arith, below (k + found.0) one (dec_lt (k + found.0) 64), one)
    where
      below : (j : ℕ) → shut w j ≡ true → Dec (j < 64) → j < 64
      below j one (yes h) = h
      below j one (no h) =
          let far : 64 ≤ j = omega arith in
          let large : 2 ^ 64 ≤ w = le_trans (pow_mono far) (shut_is_held w j one) in
          absurd (omega arith)

  -- none is wrong for 64 doors, and one for fewer where the shift leaves something
  pub none_wrong_for_64 : k ≡ 64 → w < 2 ^ 64 → wrong_setting w k ≡ false
  unfolding wrong_setting
  none_wrong_for_64 h small =
      let l : w < 2 ^ k = rw h small in
      simp (lt-ltb _ _ l)

  pub wrong_by_the_shift : not (eqb (w / 2 ^ k) 0) ≡ wrong_setting w k
  unfolding wrong_setting
  wrong_by_the_shift = by_size (dec_lt w (2 ^ k))
    where
      by_size : Dec (w < 2 ^ k) → not (eqb (w / 2 ^ k) 0) ≡ not (ltb w (2 ^ k))
      by_size (yes h) = simp (lt-ltb _ _ h, div-eq_of_lt h)
      by_size (no h) =
          let l : 2 ^ k ≤ w = omega arith in
          let left : 1 ≤ w / 2 ^ k = (le-div_iff_mul-le (pow_pos k)).1 (rw one-mul l) in
          let some : w / 2 ^ k ≡ 0 → ⊥ = omega arith in
          simp (le-ltb _ _ l, ne_eqb _ _ some)

  pub wrong_exactly_by_a_bit : w < 2 ^ 64 → (wrong_setting w k ≡ true) ↔ ((j : ℕ) × (k ≤ j) × (j < 64) × (shut w j ≡ true))
  wrong_exactly_by_a_bit small = (a_wrong_setting_has_a_bit small, λ b. a_bit_at_or_above_is_wrong b.0 b.1 b.3)

-- ---- where sight ends

module _ (ds : List ℕ) (w f g e : ℕ) where
  pub an_open_door_bars_nothing : shut w e ≡ false → bars ds w f g e ≡ false
  unfolding bars
  an_open_door_bars_nothing h = simp h

  pub a_door_elsewhere_bars_nothing : names ds f g e ≡ false → bars ds w f g e ≡ false
  unfolding bars
  a_door_elsewhere_bars_nothing h = simp (h, and-false (shut w e))

module _ (T : Cells) (ds : List ℕ) (w f : ℕ) where
  pub sight_ends_at_a_wall : neighbour T f ≡ wall → ends T ds w f ≡ true
  unfolding ends
  sight_ends_at_a_wall h = simp (eq-eqb _ _ h)

  pub sight_ends_at_a_shut_door : (e : ℕ) → e < length ds → shut w e ≡ true → names ds f (back T f) e ≡ true → ends T ds w f ≡ true
  unfolding ends bars
  sight_ends_at_a_shut_door e h s n = by_place (dec_lt (least (bars ds w f (back T f)) (length ds) 0) (length ds))
    where
      by_place : Dec (least (bars ds w f (back T f)) (length ds) 0 < length ds) → ends T ds w f ≡ true
      by_place (yes l) = simp (lt-ltb _ _ l, or-true (eqb (neighbour T f) wall))
      by_place (no l) = absurd (not_both (simp (s, n)) (none_holds (bars ds w f (back T f)) (length ds) (omega arith) e h))

  pub sight_passes_elsewhere : (neighbour T f ≡ wall → ⊥) → ((e : ℕ) → e < length ds → bars ds w f (back T f) e ≡ false) → ends T ds w f ≡ false
  unfolding ends
  sight_passes_elsewhere free none =
      let all : length ds ≤ least (bars ds w f (back T f)) (length ds) 0 =
      omega (arith, least_is_none (bars ds w f (back T f)) (length ds) 0 (λ e h l. none e (omega arith)))
      in
      simp (ne_eqb _ _ free, le-ltb _ _ all)

  -- at a face that is not wall the doors that are shut decide
  sight_by_the_doors : (neighbour T f ≡ wall → ⊥) → ends T ds w f ≡ ltb (least (bars ds w f (back T f)) (length ds) 0) (length ds)
  unfolding ends
  sight_by_the_doors free = simp (ne_eqb _ _ free)

  -- as the code reads them
  pub the_doors_decide : (neighbour T f ≡ wall → ⊥) → {g : ℕ} → g ≡ back T f → {b : Bool} → b ≡ ltb (least (bars ds w f g) (length ds) 0) (length ds) → not b ≡ not (ends T ds w f)
  the_doors_decide free is_g is_b =
      ap not (is_b ∙ ap (λ (g : ℕ). ltb (least (bars ds w f g) (length ds) 0) (length ds)) is_g ∙ sym (sight_by_the_doors free))

-- only the doors that name a face count there
pub sight_by_the_doors_named : (T : Cells) (ds : List ℕ) (v w f : ℕ) → ((e : ℕ) → names ds f (back T f) e ≡ true → shut v e ≡ shut w e) → ends T ds v f ≡ ends T ds w f
unfolding ends bars
sight_by_the_doors_named T ds v w f same =
    ap (λ (t : ℕ → Bool). eqb (neighbour T f) wall || ltb (least t (length ds) 0) (length ds)) (fun_ext (λ e. by_name e (names ds f (back T f) e) refl))
  where
    by_name : (e : ℕ) (b : Bool) → names ds f (back T f) e ≡ b → bars ds v f (back T f) e ≡ bars ds w f (back T f) e
    by_name e true p = ap (λ (a : Bool). a && names ds f (back T f) e) (same e p)
    by_name e false p = a_door_elsewhere_bars_nothing ds v f (back T f) e p ∙ sym (a_door_elsewhere_bars_nothing ds w f (back T f) e p)

module _ (T : Cells) (ds : List ℕ) (w i : ℕ) where
  -- ---- at the door's two faces

  pub shutting_ends_sight_at_the_face : i < length ds → ends T ds (with_shut w i) (get_or ds i 0) ≡ true
  shutting_ends_sight_at_the_face h =
      sight_ends_at_a_shut_door T ds (with_shut w i) (get_or ds i 0) i h (shutting_shuts_the_door w i) (names_the_face _ _ _ _ refl)

  pub shutting_ends_sight_at_the_back : i < length ds → back T (back T (get_or ds i 0)) ≡ get_or ds i 0 → ends T ds (with_shut w i) (back T (get_or ds i 0)) ≡ true
  shutting_ends_sight_at_the_back h again =
      sight_ends_at_a_shut_door T ds (with_shut w i) (back T (get_or ds i 0)) i h (shutting_shuts_the_door w i) (names_the_back _ _ _ _ (sym again))

  -- ---- at every other face

  module _ (f : ℕ) (not_the_face : f ≡ get_or ds i 0 → ⊥) (not_the_back : f ≡ back T (get_or ds i 0) → ⊥) (again : (neighbour T f ≡ wall → ⊥) → back T (back T f) ≡ f) where
    -- the setting's other doors decide
    other_doors : (v : ℕ) → ((j : ℕ) → (j ≡ i → ⊥) → shut v j ≡ shut w j) → ends T ds v f ≡ ends T ds w f
    other_doors v others = by_wall (ℕ_discrete (neighbour T f) wall)
      where
        by_door : (neighbour T f ≡ wall → ⊥) → (e : ℕ) → names ds f (back T f) e ≡ true → Dec (e ≡ i) → shut v e ≡ shut w e
        by_door free e n (yes same) =
            absurd (not_both (subst (λ (j : ℕ). names ds f (back T f) j ≡ true) same n)
            (names_neither _ _ _ _ (λ h. not_the_face (sym h)) (λ h. not_the_back (sym (ap (back T) h ∙ again free)))))
        by_door free e n (no other) = others e other

        by_wall : Dec (neighbour T f ≡ wall) → ends T ds v f ≡ ends T ds w f
        by_wall (yes h) = sight_ends_at_a_wall T ds v f h ∙ sym (sight_ends_at_a_wall T ds w f h)
        by_wall (no free) = sight_by_the_doors_named T ds v w f (λ e n. by_door free e n (ℕ_discrete e i))

    pub shutting_changes_no_other_face : ends T ds (with_shut w i) f ≡ ends T ds w f
    shutting_changes_no_other_face = other_doors (with_shut w i) (shutting_leaves_the_others w i)

    pub opening_changes_no_other_face : ends T ds (with_open w i) f ≡ ends T ds w f
    opening_changes_no_other_face = other_doors (with_open w i) (opening_leaves_the_others w i)

  -- sight passes a face that is not wall once the only door that names it is open
  pub opening_frees_the_face : (f : ℕ) → (neighbour T f ≡ wall → ⊥) → ((e : ℕ) → e < length ds → (e ≡ i → ⊥) → names ds f (back T f) e ≡ false) → ends T ds (with_open w i) f ≡ false
  opening_frees_the_face f free only = sight_passes_elsewhere T ds (with_open w i) f free (λ e h. by_door e h (ℕ_discrete e i))
    where
      by_door : (e : ℕ) → e < length ds → Dec (e ≡ i) → bars ds (with_open w i) f (back T f) e ≡ false
      by_door e h (yes same) = an_open_door_bars_nothing ds (with_open w i) f (back T f) e (ap (shut (with_open w i)) same ∙ opening_opens_the_door w i)
      by_door e h (no other) = a_door_elsewhere_bars_nothing ds (with_open w i) f (back T f) e (only e h other)

-- ---- of an accepted plan

-- its door count, replied, tells whether a setting is wrong
pub wrong_for_the_plan : (ds : List ℕ) (w : ℕ) {n : ℕ} → n ≡ length ds → {b : Bool} → b ≡ wrong_setting w n → wrong_setting w (length ds) ≡ b
wrong_for_the_plan ds w is_n e = ap (wrong_setting w) (sym is_n) ∙ sym e

-- a line that is not wall is free from both its faces, or from neither
module _ {cs : List ℤ} {T : Cells} {ds : List ℕ} (sound : Sound cs T ds) (w f : ℕ) (h : f < face_count T) (free : neighbour T f ≡ wall → ⊥) where
  the_same_doors : (e : ℕ) → bars ds w (back T f) (back T (back T f)) e ≡ bars ds w f (back T f) e
  unfolding bars names
  the_same_doors e =
      ap (λ (g : ℕ). shut w e && (eqb (get_or ds e 0) (back T f) || eqb (get_or ds e 0) g)) (back_of_back sound f h free)
      ∙ ap (λ (a : Bool). shut w e && a) (or_comm (eqb (get_or ds e 0) (back T f)) (eqb (get_or ds e 0) f))

  pub a_line_is_free_from_both_sides : ends T ds w (back T f) ≡ ends T ds w f
  a_line_is_free_from_both_sides =
      sight_by_the_doors T ds w (back T f) (back_is_free sound f h free)
      ∙ ap (λ (t : ℕ → Bool). ltb (least t (length ds) 0) (length ds)) (fun_ext the_same_doors)
      ∙ sym (sight_by_the_doors T ds w f free)

-- Two floors that agree on the faces below N and the corners below K are followed alike.
use mathlib.Core.Bool.{Bool, true, false}
use mathlib.Core.Path.{◌≡◌, refl, sym, ap, ap₂, ◌∙◌}
use Prim.Native.Nat.{ℕ, zero, suc, ◌<◌}
use Rattle.fan.specs.Sight.{Floor, Place, Sight, fan, follow, hand_on}
use Rattle.fan.specs.Sight.Place.{between, right_of_r, left_of_l}
use Rattle.fan.specs.Sight.Sight.{row, pass, both}
use Rattle.fan.proofs.Trees.{follow_a_wall, follow_too_far, follow_across, fan_last, fan_both, fan_skips, fan_ends, hand_on_is_a_fan}

-- F is as P is; where a face starts is not asked
pub record Agree (F P : Floor) (N K : ℕ) : Type 0 where
  pub ends_agree : (f : ℕ) → f < N → F.ends f ≡ P.ends f
  pub far_agrees : (f : ℕ) → f < N → F.far f ≡ P.far f
  pub back_agrees : (f : ℕ) → f < N → P.ends f ≡ false → F.back f ≡ P.back f
  pub back_below : (f : ℕ) → f < N → P.ends f ≡ false → P.back f < N
  pub next_agrees : (f : ℕ) → f < N → F.next f ≡ P.next f
  pub next_below : (f : ℕ) → f < N → P.next f < N
  pub more_agrees : (f : ℕ) → f < N → F.more f ≡ P.more f
  pub end_agrees : (f : ℕ) → f < N → F.left_end f ≡ P.left_end f
  pub end_below : (f : ℕ) → f < N → P.left_end f < K
  pub place_agrees : (v r l : ℕ) → v < K → r < K → l < K → F.place v r l ≡ P.place v r l

module _ {F P : Floor} {N K : ℕ} (A : Agree F P N K) where
  -- lines are followed alike
  abbrev Alike : (ℕ → ℕ → ℕ → Sight) → (ℕ → ℕ → ℕ → Sight) → Type 0
  Alike on on' = (f r l : ℕ) → f < N → r < K → l < K → on f r l ≡ on' f r l

  module _ (on on' : ℕ → ℕ → ℕ → Sight) (same : Alike on on') where
    fan_agrees : (m e r l : ℕ) → e < N → r < K → l < K → fan F on m e r l ≡ fan P on' m e r l
    fan_agrees zero e r l h i j = fan_last F on e r l ∙ same e r l h i j ∙ sym (fan_last P on' e r l)
    fan_agrees (suc m) e r l h i j = by_place (fan_agrees m) (P.place (P.left_end e) r l) refl
      where
        v : ℕ
        v = P.left_end e

        alike : F.place (F.left_end e) r l ≡ P.place (P.left_end e) r l
        alike = ap (λ (u : ℕ). F.place u r l) (A.end_agrees e h) ∙ A.place_agrees (P.left_end e) r l (A.end_below e h) i j

        after : ((e r l : ℕ) → e < N → r < K → l < K → fan F on m e r l ≡ fan P on' m e r l) → (r l : ℕ) → r < K → l < K → fan F on m (F.next e) r l ≡ fan P on' m (P.next e) r l
        after rest r l i j = ap (λ (x : ℕ). fan F on m x r l) (A.next_agrees e h) ∙ rest (P.next e) r l (A.next_below e h) i j

        by_place : ((e r l : ℕ) → e < N → r < K → l < K → fan F on m e r l ≡ fan P on' m e r l) → (p : Place) → P.place (P.left_end e) r l ≡ p → fan F on (suc m) e r l ≡ fan P on' (suc m) e r l
        by_place rest between p =
            fan_both F on m e r l (alike ∙ p)
            ∙ ap (λ (u : ℕ). both (on e r u) (fan F on m (F.next e) u l)) (A.end_agrees e h)
            ∙ ap₂ both (same e r (P.left_end e) h i (A.end_below e h)) (after rest (P.left_end e) l (A.end_below e h) j)
            ∙ sym (fan_both P on' m e r l p)
        by_place rest right_of_r p = fan_skips F on m e r l (alike ∙ p) ∙ after rest r l i j ∙ sym (fan_skips P on' m e r l p)
        by_place rest left_of_l p = fan_ends F on m e r l (alike ∙ p) ∙ same e r l h i j ∙ sym (fan_ends P on' m e r l p)

  at_an_end : (n f r l : ℕ) → f < N → P.ends f ≡ true → follow F n f r l ≡ follow P n f r l
  at_an_end n f r l h e =
      follow_a_wall F n f r l (A.ends_agree f h ∙ e) ∙ ap (row f r l) (A.far_agrees f h) ∙ sym (follow_a_wall P n f r l e)

  pub follow_agrees : (n f r l : ℕ) → f < N → r < K → l < K → follow F n f r l ≡ follow P n f r l
  follow_agrees zero f r l h i j = by_end (P.ends f) refl
    where
      by_end : (b : Bool) → P.ends f ≡ b → follow F zero f r l ≡ follow P zero f r l
      by_end true e = at_an_end zero f r l h e
      by_end false e = follow_too_far F f r l (A.ends_agree f h ∙ e) ∙ sym (follow_too_far P f r l e)
  follow_agrees (suc n) f r l h i j = by_end (follow_agrees n) (P.ends f) refl
    where
      handed : Alike (follow F n) (follow P n) → (g : ℕ) → g < N → hand_on F n g r l ≡ hand_on P n g r l
      handed same g k =
          hand_on_is_a_fan F n g r l
          ∙ ap₂ (λ (m e : ℕ). fan F (follow F n) m e r l) (A.more_agrees g k) (A.next_agrees g k)
          ∙ fan_agrees (follow F n) (follow P n) same (P.more g) (P.next g) r l (A.next_below g k) i j
          ∙ sym (hand_on_is_a_fan P n g r l)

      by_end : Alike (follow F n) (follow P n) → (b : Bool) → P.ends f ≡ b → follow F (suc n) f r l ≡ follow P (suc n) f r l
      by_end same true e = at_an_end (suc n) f r l h e
      by_end same false e =
          follow_across F n f r l (A.ends_agree f h ∙ e)
          ∙ ap (λ (g : ℕ). pass f r l (hand_on F n g r l)) (A.back_agrees f h e)
          ∙ ap (pass f r l) (handed same (P.back f) (A.back_below f h e))
          ∙ sym (follow_across P n f r l e)

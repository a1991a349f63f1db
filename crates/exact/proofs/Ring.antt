-- ℤ is a commutative ring: what `lib.IntN` lacks, the two distributive laws and that the product is associative.
use mathlib.Core.Path.{◌≡◌, sym, ◌∙◌, ap}
use Prim.Native.Nat.{zero, suc}
use lib.IntN.{ℤ, pos, negsuc, suc_ℤ, pred_ℤ, neg_ℤ, ◌+ℤ◌, ◌-ℤ◌, ◌*ℤ◌, +ℤ_assoc, +ℤ_comm, +ℤ_idl, +ℤ_idr, +ℤ_invr, +ℤ_invl, suc_ℤ-+ℤ, pred_ℤ-+ℤ, suc_ℤ-*ℤ, pred_ℤ-*ℤ, zero-*ℤ, *ℤ_comm}

-- what holds of 0 and passes to the successor and the predecessor holds of every whole number
pub by_steps {ℓ} : (P : ℤ → Type ℓ) → P (pos zero) → ((k : ℤ) → P k → P (suc_ℤ k)) → ((k : ℤ) → P k → P (pred_ℤ k)) → (k : ℤ) → P k
by_steps P z up down (pos zero) = z
by_steps P z up down (pos (suc n)) = up (pos n) (by_steps P z up down (pos n))
by_steps P z up down (negsuc zero) = down (pos zero) z
by_steps P z up down (negsuc (suc n)) = down (negsuc n) (by_steps P z up down (negsuc n))

-- the last two of three summands change places
pub swap_last : (a b c : ℤ) → (a +ℤ b) +ℤ c ≡ (a +ℤ c) +ℤ b
swap_last a b c = +ℤ_assoc a b c ∙ ap (λ x. a +ℤ x) (+ℤ_comm b c) ∙ sym (+ℤ_assoc a c b)

pub distributive_right : (m k j : ℤ) → (m +ℤ k) *ℤ j ≡ m *ℤ j +ℤ k *ℤ j
distributive_right m k j = by_steps (λ m. (m +ℤ k) *ℤ j ≡ m *ℤ j +ℤ k *ℤ j) at_zero up down m
  where
    at_zero : (pos zero +ℤ k) *ℤ j ≡ pos zero *ℤ j +ℤ k *ℤ j
    at_zero = ap (λ x. x *ℤ j) (+ℤ_idl k) ∙ sym (ap (λ x. x +ℤ k *ℤ j) (zero-*ℤ j) ∙ +ℤ_idl (k *ℤ j))

    up : (m : ℤ) → (m +ℤ k) *ℤ j ≡ m *ℤ j +ℤ k *ℤ j → (suc_ℤ m +ℤ k) *ℤ j ≡ suc_ℤ m *ℤ j +ℤ k *ℤ j
    up m h =
        ap (λ x. x *ℤ j) (suc_ℤ-+ℤ m k)
        ∙ suc_ℤ-*ℤ (m +ℤ k) j
        ∙ ap (λ x. x +ℤ j) h
        ∙ swap_last (m *ℤ j) (k *ℤ j) j
        ∙ ap (λ x. x +ℤ k *ℤ j) (sym (suc_ℤ-*ℤ m j))

    down : (m : ℤ) → (m +ℤ k) *ℤ j ≡ m *ℤ j +ℤ k *ℤ j → (pred_ℤ m +ℤ k) *ℤ j ≡ pred_ℤ m *ℤ j +ℤ k *ℤ j
    down m h =
        ap (λ x. x *ℤ j) (pred_ℤ-+ℤ m k)
        ∙ pred_ℤ-*ℤ (m +ℤ k) j
        ∙ ap (λ x. x -ℤ j) h
        ∙ swap_last (m *ℤ j) (k *ℤ j) (neg_ℤ j)
        ∙ ap (λ x. x +ℤ k *ℤ j) (sym (pred_ℤ-*ℤ m j))

pub distributive_left : (m k j : ℤ) → m *ℤ (k +ℤ j) ≡ m *ℤ k +ℤ m *ℤ j
distributive_left m k j =
    *ℤ_comm m (k +ℤ j) ∙ distributive_right k j m ∙ ap (λ x. x +ℤ j *ℤ m) (*ℤ_comm k m) ∙ ap (λ x. m *ℤ k +ℤ x) (*ℤ_comm j m)

-- what adds up to 0 with a is its negation
pub negation_unique : (a b : ℤ) → a +ℤ b ≡ pos zero → b ≡ neg_ℤ a
negation_unique a b h =
    sym (+ℤ_idl b)
    ∙ ap (λ x. x +ℤ b) (sym (+ℤ_invl a))
    ∙ +ℤ_assoc (neg_ℤ a) a b
    ∙ ap (λ x. neg_ℤ a +ℤ x) h
    ∙ +ℤ_idr (neg_ℤ a)

-- a sign moves out of the first factor
pub negation_out_left : (k j : ℤ) → neg_ℤ k *ℤ j ≡ neg_ℤ (k *ℤ j)
negation_out_left k j =
    negation_unique (k *ℤ j) (neg_ℤ k *ℤ j)
    (sym (distributive_right k (neg_ℤ k) j) ∙ ap (λ x. x *ℤ j) (+ℤ_invr k) ∙ zero-*ℤ j)

pub product_associative : (m k j : ℤ) → (m *ℤ k) *ℤ j ≡ m *ℤ (k *ℤ j)
product_associative m k j = by_steps (λ m. (m *ℤ k) *ℤ j ≡ m *ℤ (k *ℤ j)) at_zero up down m
  where
    at_zero : (pos zero *ℤ k) *ℤ j ≡ pos zero *ℤ (k *ℤ j)
    at_zero = ap (λ x. x *ℤ j) (zero-*ℤ k) ∙ zero-*ℤ j ∙ sym (zero-*ℤ (k *ℤ j))

    up : (m : ℤ) → (m *ℤ k) *ℤ j ≡ m *ℤ (k *ℤ j) → (suc_ℤ m *ℤ k) *ℤ j ≡ suc_ℤ m *ℤ (k *ℤ j)
    up m h =
        ap (λ x. x *ℤ j) (suc_ℤ-*ℤ m k)
        ∙ distributive_right (m *ℤ k) k j
        ∙ ap (λ x. x +ℤ k *ℤ j) h
        ∙ sym (suc_ℤ-*ℤ m (k *ℤ j))

    down : (m : ℤ) → (m *ℤ k) *ℤ j ≡ m *ℤ (k *ℤ j) → (pred_ℤ m *ℤ k) *ℤ j ≡ pred_ℤ m *ℤ (k *ℤ j)
    down m h =
        ap (λ x. x *ℤ j) (pred_ℤ-*ℤ m k)
        ∙ distributive_right (m *ℤ k) (neg_ℤ k) j
        ∙ ap (λ x. x +ℤ neg_ℤ k *ℤ j) h
        ∙ ap (λ x. m *ℤ (k *ℤ j) +ℤ x) (negation_out_left k j)
        ∙ sym (pred_ℤ-*ℤ m (k *ℤ j))

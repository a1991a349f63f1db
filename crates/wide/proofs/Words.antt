-- The product of two words by their halves, of any base: what schoolbook multiplication adds up, each sum as what it carries on and what it keeps.
use mathlib.Core.Path.{◌≡◌, ◌∙◌, ap, ap₂}
use Prim.Native.Nat.{ℕ, ◌+◌, ◌*◌, ◌/◌, ◌%◌}
use native.Mathlib.Nat.{div-add-mod'}
use native.Mathlib.Omega.{arith}

-- a and b are the halves of one word, c and d those of the other
by_halves :
    (H a b c d l l' f f' s s' : ℕ) → l * H + l' ≡ b * d → f * H + f' ≡ a * d + l → s * H + s' ≡ b * c + f' → (a * c + f + s) * (H * H) + (s' * H + l') ≡ (a * H + b) * (c * H + d)
by_halves H a b c d l l' f f' s s' e₀ e₁ e₂ =
    let f₁ = ap (λ (n : ℕ). n * H) e₁ in
    let f₂ = ap (λ (n : ℕ). n * H) e₂ in
    omega arith

module _ (H a b : ℕ) where
  abbrev low : ℕ
  low = a % H * (b % H)

  abbrev first : ℕ
  first = a / H * (b % H) + low / H

  abbrev second : ℕ
  second = a % H * (b / H) + first % H

  abbrev high : ℕ
  high = a / H * (b / H) + first / H + second / H

  pub the_halves_make_the_product : high * (H * H) + (second % H * H + low % H) ≡ a * b
  the_halves_make_the_product =
      by_halves H (a / H) (a % H) (b / H) (b % H) _ _ _ _ _ _ (div-add-mod' low H) (div-add-mod' first H) (div-add-mod' second H) ∙ ap₂ ◌*◌ (div-add-mod' a H) (div-add-mod' b H)

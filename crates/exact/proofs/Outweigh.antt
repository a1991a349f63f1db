-- A number that outweighs each of finitely many.
use mathlib.Core.List.{[], ◌∷◌}
use mathlib.Core.Path.{◌≡◌, sym, subst}
use Prim.Native.Nat.{ℕ, zero, suc, ◌<◌}
use native.Mathlib.Decide.{ℕ_discrete}
use native.Mathlib.Omega.{arith}
use lib.IntN.{ℤ, pos, ◌+ℤ◌, ◌*ℤ◌}
use lib.Signed.{◌<ℤ◌}
use Rattle.exact.proofs.Order.{𝟘}
use Rattle.exact.proofs.Solver.{Expr, ◌⊕◌, ◌⊗◌}
use Rattle.exact.proofs.Solver.Expr.{var, lit}
use Rattle.exact.proofs.Certificate.{prove, ◌≺◌, ◌⊞◌, ◌⊠◌}
use Rattle.exact.proofs.Certificate.Cert.{given, square, number}
use Rattle.exact.proofs.Certificate.Proof.{only}

-- one n outweighs every value before the k-th
pub record Outweighs (value : ℕ → ℤ) (k : ℕ) : Type 0 where
  pub n : ℤ
  pub positive : 𝟘 <ℤ n
  pub each : (e : ℕ) → e < k → 𝟘 <ℤ (n +ℤ value e)

module _ (value : ℕ → ℤ) where
  -- a square and one more outweigh the next
  one_more : (k : ℕ) → Outweighs value k → Outweighs value (suc k)
  one_more k before =
      record {
        n = before.n +ℤ (pos 1 +ℤ t *ℤ t);
        positive = prove (before.n ∷ t ∷ []) ((lit 𝟘 ≺ var 0) ∷ []) (lit 𝟘 ≺ more) (only (given 0 ⊞ given 1 ⊞ number 0 ⊞ square (var 1))) tt before.positive;
        each = λ e h. by_place e h (ℕ_discrete e k);
      }
    where
      t : ℤ
      t = value k

      more : Expr
      more = var 0 ⊕ (lit (pos 1) ⊕ var 1 ⊗ var 1)

      by_place : (e : ℕ) → e < suc k → Dec (e ≡ k) → 𝟘 <ℤ (before.n +ℤ (pos 1 +ℤ t *ℤ t) +ℤ value e)
      by_place e h (yes p) =
          subst (λ (i : ℕ). 𝟘 <ℤ (before.n +ℤ (pos 1 +ℤ t *ℤ t) +ℤ value i)) (sym p)
          (prove (before.n ∷ t ∷ []) ((lit 𝟘 ≺ var 0) ∷ []) (lit 𝟘 ≺ more ⊕ var 1) (only (number 1 ⊠ given 0 ⊞ number 1 ⊠ given 1 ⊞ square (var 1) ⊞ square (var 1 ⊕ lit (pos 1)) ⊞ number 0)) tt before.positive)
      by_place e h (no p) =
          prove (before.n ∷ t ∷ value e ∷ []) ((lit 𝟘 ≺ var 0 ⊕ var 2) ∷ []) (lit 𝟘 ≺ more ⊕ var 2) (only (given 0 ⊞ given 1 ⊞ number 0 ⊞ square (var 1))) tt (before.each e (omega arith))

  pub outweighs : (k : ℕ) → Outweighs value k
  outweighs zero =
      record {
        n = pos 1;
        positive = prove [] [] (lit 𝟘 ≺ lit (pos 1)) (only (given 0 ⊞ number 0)) tt;
        each = λ e h. absurd (omega arith);
      }
  outweighs (suc k) = one_more k (outweighs k)

-- Vectors, quoted for the ring solver and the certificates of `exact`: point i has the variables 2i and 2i + 1.
use mathlib.Core.List.{List, [], ◌∷◌}
use Prim.Native.Nat.{ℕ, ◌+◌, ◌*◌}
use lib.IntN.{ℤ, pos}
use Rattle.exact.proofs.Solver.{Expr, ◌⊕◌, ◌⊖◌, ◌⊗◌}
use Rattle.exact.proofs.Solver.Expr.{var, lit}
use Rattle.plane.specs.Side.{Point}

pub record Pointᵉ : Type 0 where
  pub x : Expr
  pub y : Expr

-- the numbers that the variables stand for
abbrev pub coordinates : List Point → List ℤ
coordinates [] = []
coordinates (p ∷ ps) = p.x ∷ p.y ∷ coordinates ps

abbrev pub pt : ℕ → Pointᵉ
pt i = record { x = var (2 * i); y = var (2 * i + 1) }

abbrev pub 𝟘ᵉ : Expr
𝟘ᵉ = lit (pos 0)

abbrev pub minusᵉ : Pointᵉ → Pointᵉ → Pointᵉ
minusᵉ c q = record { x = c.x ⊖ q.x; y = c.y ⊖ q.y }

abbrev pub plusᵉ : Pointᵉ → Pointᵉ → Pointᵉ
plusᵉ u v = record { x = u.x ⊕ v.x; y = u.y ⊕ v.y }

abbrev pub scaledᵉ : Expr → Pointᵉ → Pointᵉ
scaledᵉ w p = record { x = w ⊗ p.x; y = w ⊗ p.y }

abbrev pub crossᵉ : Pointᵉ → Pointᵉ → Expr
crossᵉ u v = u.x ⊗ v.y ⊖ u.y ⊗ v.x

abbrev pub dotᵉ : Pointᵉ → Pointᵉ → Expr
dotᵉ u v = u.x ⊗ v.x ⊕ u.y ⊗ v.y

abbrev pub sideᵉ : Pointᵉ → Pointᵉ → Pointᵉ → Expr
sideᵉ a b c = (b.x ⊖ a.x) ⊗ (c.y ⊖ a.y) ⊖ (b.y ⊖ a.y) ⊗ (c.x ⊖ a.x)

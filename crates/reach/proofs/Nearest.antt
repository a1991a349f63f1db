-- Points of a line in reach: an end, or the foot of the perpendicular; and that none is nearer than the one that decides. A point is n·a + m·u, with u = b − a:
-- n times as far as it is.
use mathlib.Core.List.{List, [], ◌∷◌}
use mathlib.Core.Path.{◌≡◌}
use Prim.Native.Nat.{ℕ, ◌*◌, ◌≤◌}
use native.Mathlib.Nat.{mul-le-mul}
use lib.Dec.{le→leb}
use lib.IntN.{ℤ, pos, ◌+ℤ◌, ◌-ℤ◌, ◌*ℤ◌}
use lib.Signed.{◌<ℤ◌, ◌≤ℤ◌, lt_z_yes, le_z_yes}
use Rattle.exact.proofs.Order.{𝟘, square_not_negative}
use Rattle.exact.proofs.Solver.{Expr, solve, ◌⊕◌, ◌⊖◌, ◌⊗◌}
use Rattle.exact.proofs.Solver.Expr.{var, lit}
use Rattle.exact.proofs.Certificate.{prove, ◌≺◌, ◌≼◌, ◌≈◌, ◌⊞◌, ◌⊠◌}
use Rattle.exact.proofs.Certificate.Cert.{given, number, square, by}
use Rattle.exact.proofs.Certificate.Proof.{only}
use Rattle.plane.specs.Side.{Point}
use Rattle.plane.specs.Cone.{minus, plus, scaled, cross, dot, Opposite}
use Rattle.plane.proofs.Quote.{Pointᵉ, coordinates, pt, 𝟘ᵉ, minusᵉ, plusᵉ, scaledᵉ, crossᵉ, dotᵉ}
use Rattle.reach.specs.Reach.{on_the_way, squared, InReach}

-- ---- quoted: points 0 and 1 are the ends, and then come the square of the reach and a witness

abbrev numbers : Point → Point → ℤ → ℤ → ℤ → List ℤ
numbers a b s n m = a.x ∷ a.y ∷ b.x ∷ b.y ∷ s ∷ n ∷ m ∷ []

abbrev aᵉ : Pointᵉ
aᵉ = pt 0

abbrev bᵉ : Pointᵉ
bᵉ = pt 1

abbrev uᵉ : Pointᵉ
uᵉ = minusᵉ bᵉ aᵉ

abbrev sᵉ : Expr
sᵉ = var 4

abbrev nᵉ : Expr
nᵉ = var 5

abbrev mᵉ : Expr
mᵉ = var 6

abbrev wayᵉ : Expr → Expr → Pointᵉ → Pointᵉ → Pointᵉ
wayᵉ n m a b = plusᵉ (scaledᵉ n a) (scaledᵉ m (minusᵉ b a))

abbrev squareᵉ : Pointᵉ → Expr
squareᵉ p = dotᵉ p p

-- ---- the other way round

dot_turns : (a b : Point) → dot a b ≡ dot b a
unfolding dot
dot_turns a b = solve (coordinates (a ∷ b ∷ [])) (dotᵉ aᵉ bᵉ) (dotᵉ bᵉ aᵉ) tt

pub length_by_the_ends : (a b : Point) → (dot a a -ℤ dot a b) +ℤ (dot b b -ℤ dot a b) ≡ dot (minus b a) (minus b a)
unfolding dot minus
length_by_the_ends a b = solve (coordinates (a ∷ b ∷ [])) ((squareᵉ aᵉ ⊖ dotᵉ aᵉ bᵉ) ⊕ (squareᵉ bᵉ ⊖ dotᵉ aᵉ bᵉ)) (squareᵉ uᵉ) tt

pub in_reach_turned : {R : ℕ} {a b : Point} → InReach R a b → InReach R b a
unfolding dot minus plus scaled on_the_way
in_reach_turned {R} {a} {b} w =
    let ρ = numbers a b (squared R) w.n w.m in
    record {
      n = w.n;
      m = w.n -ℤ w.m;
      positive = w.positive;
      not_before_a = prove ρ ((mᵉ ≼ nᵉ) ∷ []) (𝟘ᵉ ≼ nᵉ ⊖ mᵉ) (only (given 0 ⊞ given 1)) tt w.not_after_b;
      not_after_b = prove ρ ((𝟘ᵉ ≼ mᵉ) ∷ []) (nᵉ ⊖ mᵉ ≼ nᵉ) (only (given 0 ⊞ given 1)) tt w.not_before_a;
      near = prove ρ ((squareᵉ (wayᵉ nᵉ mᵉ aᵉ bᵉ) ≼ sᵉ ⊗ (nᵉ ⊗ nᵉ)) ∷ []) (squareᵉ (wayᵉ nᵉ (nᵉ ⊖ mᵉ) bᵉ aᵉ) ≼ sᵉ ⊗ (nᵉ ⊗ nᵉ)) (only (given 0 ⊞ given 1)) tt w.near;
    }

-- ---- a longer reach

longer_square : (r r' : ℕ) → r ≤ r' → squared r ≤ℤ squared r'
longer_square r r' h = le_z_yes (le→leb (r * r) (r' * r') (mul-le-mul h h))

pub in_longer_reach : {R R' : ℕ} {a b : Point} → R ≤ R' → InReach R a b → InReach R' a b
in_longer_reach {R} {R'} {a} {b} l w =
    let p = on_the_way w.n w.m a b in
    record {
      n = w.n;
      m = w.m;
      positive = w.positive;
      not_before_a = w.not_before_a;
      not_after_b = w.not_after_b;
      near = prove (dot p p ∷ squared R ∷ squared R' ∷ w.n ∷ []) ((var 0 ≼ var 1 ⊗ (var 3 ⊗ var 3)) ∷ (var 1 ≼ var 2) ∷ []) (var 0 ≼ var 2 ⊗ (var 3 ⊗ var 3)) (only (given 0 ⊞ given 1 ⊞ given 2 ⊠ square (var 3))) tt w.near (longer_square R R' l);
    }

-- ---- a point in reach

module _ (R : ℕ) (a b : Point) where
  pub the_first_end : dot a a ≤ℤ squared R → InReach R a b
  unfolding dot minus plus scaled on_the_way
  the_first_end h =
      record {
        n = pos 1;
        m = pos 0;
        positive = lt_z_yes tt;
        not_before_a = le_z_yes tt;
        not_after_b = le_z_yes tt;
        near = prove (numbers a b (squared R) 𝟘 𝟘) ((squareᵉ aᵉ ≼ sᵉ) ∷ []) (squareᵉ (wayᵉ (lit (pos 1)) 𝟘ᵉ aᵉ bᵉ) ≼ sᵉ ⊗ (lit (pos 1) ⊗ lit (pos 1))) (only (given 0 ⊞ given 1)) tt h;
      }

  -- where the line goes away from the stand at neither end
  pub the_foot : dot a b <ℤ dot a a → dot a b <ℤ dot b b → (cross a b *ℤ cross a b) ≤ℤ (squared R *ℤ dot (minus b a) (minus b a)) → InReach R a b
  unfolding dot cross minus plus scaled on_the_way
  the_foot h k near =
      let ρ = numbers a b (squared R) 𝟘 𝟘 in
      let ends = (dotᵉ aᵉ bᵉ ≺ squareᵉ aᵉ) ∷ (dotᵉ aᵉ bᵉ ≺ squareᵉ bᵉ) ∷ [] in
      let m = squareᵉ aᵉ ⊖ dotᵉ aᵉ bᵉ in
      let long : 𝟘 <ℤ dot (minus b a) (minus b a) = prove ρ ends (𝟘ᵉ ≺ squareᵉ uᵉ) (only (given 0 ⊞ given 1 ⊞ given 2)) tt h k in
      record {
        n = dot (minus b a) (minus b a);
        m = dot a a -ℤ dot a b;
        positive = long;
        not_before_a = prove ρ ends (𝟘ᵉ ≼ m) (only (given 0 ⊞ given 1)) tt h k;
        not_after_b = prove ρ ends (m ≼ squareᵉ uᵉ) (only (given 0 ⊞ given 2)) tt h k;
        near = prove ρ ((𝟘ᵉ ≺ squareᵉ uᵉ) ∷ (crossᵉ aᵉ bᵉ ⊗ crossᵉ aᵉ bᵉ ≼ sᵉ ⊗ squareᵉ uᵉ) ∷ []) (squareᵉ (wayᵉ (squareᵉ uᵉ) m aᵉ bᵉ) ≼ sᵉ ⊗ (squareᵉ uᵉ ⊗ squareᵉ uᵉ)) (only (given 0 ⊞ given 1 ⊠ given 2)) tt long near;
      }

  -- of a line that the stand is strictly within
  pub the_stand_itself : Opposite a b → InReach R a b
  unfolding dot cross minus
  the_stand_itself o =
      let ρ = numbers a b (squared R) 𝟘 𝟘 in
      let toward = (dotᵉ aᵉ bᵉ ≺ 𝟘ᵉ) ∷ [] in
      the_foot
      (prove ρ toward (dotᵉ aᵉ bᵉ ≺ squareᵉ aᵉ) (only (given 0 ⊞ given 1 ⊞ square aᵉ.x ⊞ square aᵉ.y)) tt o.apart)
      (prove ρ toward (dotᵉ aᵉ bᵉ ≺ squareᵉ bᵉ) (only (given 0 ⊞ given 1 ⊞ square bᵉ.x ⊞ square bᵉ.y)) tt o.apart)
      (prove ρ ((crossᵉ aᵉ bᵉ ≈ 𝟘ᵉ) ∷ (𝟘ᵉ ≼ sᵉ) ∷ []) (crossᵉ aᵉ bᵉ ⊗ crossᵉ aᵉ bᵉ ≼ sᵉ ⊗ squareᵉ uᵉ) (only (given 0 ⊞ given 2 ⊠ square uᵉ.x ⊞ given 2 ⊠ square uᵉ.y ⊞ by (crossᵉ aᵉ bᵉ) (given 1))) tt o.along (square_not_negative (pos R)))

pub the_second_end : (R : ℕ) (a b : Point) → dot b b ≤ℤ squared R → InReach R a b
the_second_end R a b h = in_reach_turned (the_first_end R b a h)

-- ---- no point is nearer

module _ {R : ℕ} {a b : Point} (w : InReach R a b) where
  -- where the line goes away from the stand at a, the point's square is n²·(a·a) and more, and n² cancels
  pub none_nearer_than_the_first_end : dot a a ≤ℤ dot a b → dot a a ≤ℤ squared R
  unfolding dot minus plus scaled on_the_way
  none_nearer_than_the_first_end h =
      prove (numbers a b (squared R) w.n w.m)
      ((𝟘ᵉ ≺ nᵉ) ∷ (𝟘ᵉ ≼ mᵉ) ∷ (squareᵉ (wayᵉ nᵉ mᵉ aᵉ bᵉ) ≼ sᵉ ⊗ (nᵉ ⊗ nᵉ)) ∷ (squareᵉ aᵉ ≼ dotᵉ aᵉ bᵉ) ∷ [])
      (squareᵉ aᵉ ≼ sᵉ)
      (only (given 0 ⊠ given 1 ⊠ given 1 ⊞ given 3 ⊞ number 1 ⊠ given 1 ⊠ given 2 ⊠ given 4 ⊞ square (mᵉ ⊗ uᵉ.x) ⊞ square (mᵉ ⊗ uᵉ.y)))
      tt
      w.positive
      w.not_before_a
      w.near
      h

  -- the point's square times u·u is n²·(a×b)² and a square more
  pub none_nearer_than_the_foot : (cross a b *ℤ cross a b) ≤ℤ (squared R *ℤ dot (minus b a) (minus b a))
  unfolding dot cross minus plus scaled on_the_way
  none_nearer_than_the_foot =
      prove (numbers a b (squared R) w.n w.m)
      ((𝟘ᵉ ≺ nᵉ) ∷ (squareᵉ (wayᵉ nᵉ mᵉ aᵉ bᵉ) ≼ sᵉ ⊗ (nᵉ ⊗ nᵉ)) ∷ [])
      (crossᵉ aᵉ bᵉ ⊗ crossᵉ aᵉ bᵉ ≼ sᵉ ⊗ squareᵉ uᵉ)
      (only (given 0 ⊠ given 1 ⊠ given 1 ⊞ given 2 ⊠ square uᵉ.x ⊞ given 2 ⊠ square uᵉ.y ⊞ square (dotᵉ (wayᵉ nᵉ mᵉ aᵉ bᵉ) uᵉ)))
      tt
      w.positive
      w.near

pub none_nearer_than_the_second_end : {R : ℕ} {a b : Point} → InReach R a b → dot b b ≤ℤ dot a b → dot b b ≤ℤ squared R
none_nearer_than_the_second_end {R} {a} {b} w h = none_nearer_than_the_first_end (in_reach_turned w) (rw (dot_turns a b) at h)

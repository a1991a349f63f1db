-- Spots, the half-planes where a form is positive, and regions: a region holds every mixture of its spots.
use mathlib.Core.List.{List, [], ◌∷◌}
use mathlib.Core.Logic.{◌⊎◌, inl, inr}
use mathlib.Core.Path.{◌≡◌, sym, subst}
use Prim.Native.Nat.{ℕ, ◌+◌, ◌<◌}
use lib.IntN.{ℤ, pos, ◌+ℤ◌, ◌*ℤ◌}
use lib.Signed.{◌<ℤ◌, ◌≤ℤ◌}
use Rattle.exact.proofs.Order.{𝟘}
use Rattle.exact.proofs.Solver.{Expr, solve, ◌⊕◌, ◌⊖◌, ◌⊗◌}
use Rattle.exact.proofs.Solver.Expr.{var, lit}
use Rattle.exact.proofs.Certificate.{prove, ◌≺◌, ◌≼◌, ◌≈◌, ◌⊞◌, ◌⊠◌}
use Rattle.exact.proofs.Certificate.Cert.{given, by, one_less}
use Rattle.exact.proofs.Certificate.Proof.{only}
use Rattle.plane.proofs.Quote.{𝟘ᵉ}

-- three whole numbers; the point (x/w, y/w) where w is positive
pub record Spot : Type 0 where
  pub x : ℤ
  pub y : ℤ
  pub w : ℤ

-- ---- mixtures of four spots

-- four of a kind: four spots, or a weight for each
pub record Four (A : Type 0) : Type 0 where
  pub one : A
  pub two : A
  pub three : A
  pub four : A

abbrev pub total : Four ℤ → ℤ
total n = n.one +ℤ n.two +ℤ n.three +ℤ n.four

-- four numbers, each so many times
abbrev pub weighed : Four ℤ → Four ℤ → ℤ
weighed n v = n.one *ℤ v.one +ℤ n.two *ℤ v.two +ℤ n.three *ℤ v.three +ℤ n.four *ℤ v.four

-- one number of each
abbrev pub of_each : (Spot → ℤ) → Four Spot → Four ℤ
of_each f s = record { one = f s.one; two = f s.two; three = f s.three; four = f s.four }

-- four spots, each so many times
abbrev pub mixed : Four ℤ → Four Spot → Spot
mixed n s = record { x = weighed n (of_each (λ p. p.x) s); y = weighed n (of_each (λ p. p.y) s); w = weighed n (of_each (λ p. p.w) s) }

-- no weight is negative
pub record NotNegative (n : Four ℤ) : Type 0 where
  pub one : 𝟘 ≤ℤ n.one
  pub two : 𝟘 ≤ℤ n.two
  pub three : 𝟘 ≤ℤ n.three
  pub four : 𝟘 ≤ℤ n.four

-- each of the four that has a weight is such a one
pub record Weighty {A : Type 0} (In : A → Type 0) (n : Four ℤ) (s : Four A) : Type 0 where
  pub one : (n.one ≡ 𝟘) ⊎ In s.one
  pub two : (n.two ≡ 𝟘) ⊎ In s.two
  pub three : (n.three ≡ 𝟘) ⊎ In s.three
  pub four : (n.four ≡ 𝟘) ⊎ In s.four

mapped : {A B C : Type 0} → (B → C) → A ⊎ B → A ⊎ C
mapped f (inl a) = inl a
mapped f (inr b) = inr (f b)

-- where every such one is another such one too
pub weighty_too : {In Too : Spot → Type 0} {n : Four ℤ} {s : Four Spot} → ((p : Spot) → In p → Too p) → Weighty In n s → Weighty Too n s
weighty_too f h =
    record { one = mapped (f _) h.one; two = mapped (f _) h.two; three = mapped (f _) h.three; four = mapped (f _) h.four }

-- a weight is at most itself times what is positive
at_most_weighed : {n v : ℤ} → 𝟘 ≤ℤ n → (n ≡ 𝟘) ⊎ (𝟘 <ℤ v) → n ≤ℤ (n *ℤ v)
at_most_weighed {n} {v} h (inl z) = prove (n ∷ v ∷ []) ((var 0 ≈ 𝟘ᵉ) ∷ []) (var 0 ≼ var 0 ⊗ var 1) (only (given 0 ⊞ by (lit (pos 1) ⊖ var 1) (given 1))) tt z
at_most_weighed {n} {v} h (inr k) =
    prove (n ∷ v ∷ []) ((𝟘ᵉ ≼ var 0) ∷ (𝟘ᵉ ≺ var 1) ∷ []) (var 0 ≼ var 0 ⊗ var 1) (only (given 0 ⊞ given 1 ⊠ one_less (given 2))) tt h k

-- positive numbers weigh something
pub positive_weighed : (n v : Four ℤ) → NotNegative n → 𝟘 <ℤ total n → Weighty (λ z. 𝟘 <ℤ z) n v → 𝟘 <ℤ weighed n v
positive_weighed n v h t m =
    prove numbers ((𝟘ᵉ ≺ var 0 ⊕ var 1 ⊕ var 2 ⊕ var 3) ∷ (var 0 ≼ var 4) ∷ (var 1 ≼ var 5) ∷ (var 2 ≼ var 6) ∷ (var 3 ≼ var 7) ∷ [])
    (𝟘ᵉ ≺ var 4 ⊕ var 5 ⊕ var 6 ⊕ var 7)
    (only (given 0 ⊞ given 1 ⊞ given 2 ⊞ given 3 ⊞ given 4 ⊞ given 5))
    tt
    t (at_most_weighed h.one m.one) (at_most_weighed h.two m.two) (at_most_weighed h.three m.three) (at_most_weighed h.four m.four)
  where
    numbers : List ℤ
    numbers =
        n.one ∷ n.two ∷ n.three ∷ n.four ∷ (n.one *ℤ v.one) ∷ (n.two *ℤ v.two) ∷ (n.three *ℤ v.three) ∷ (n.four *ℤ v.four) ∷ []

-- ---- regions

-- a set of spots that holds their mixtures
pub record Region : Type 1 where
  pub In : Spot → Type 0
  pub holds_mixtures : (n : Four ℤ) (s : Four Spot) → NotNegative n → 𝟘 <ℤ total n → Weighty In n s → In (mixed n s)

-- some spot that is a point is in the region
pub record Met (K : Region) : Type 0 where
  pub spot : Spot
  pub positive : 𝟘 <ℤ spot.w
  pub in_it : K.In spot

-- where every spot of K is one of L, and K is met, L is
pub met_too : {K L : Region} → ((p : Spot) → K.In p → L.In p) → Met K → Met L
met_too f m = record { spot = m.spot; positive = m.positive; in_it = f m.spot m.in_it }

-- the spot is in K and in L
pub record InBoth (K L : Region) (p : Spot) : Type 0 where
  pub first : K.In p
  pub second : L.In p

-- what two regions have in common
infixr 6 ◌∩◌
abbrev pub ◌∩◌ : Region → Region → Region
K ∩ L =
    record {
      In = InBoth K L;
      holds_mixtures = λ n s h t m.
          record {
            first = K.holds_mixtures n s h t (weighty_too (λ p b. b.first) m);
            second = L.holds_mixtures n s h t (weighty_too (λ p b. b.second) m);
          };
    }

-- ---- half-planes

-- p·x + q·y + r·w
pub record Form : Type 0 where
  pub p : ℤ
  pub q : ℤ
  pub r : ℤ

-- the value of a form at a spot
abbrev pub at : Form → Spot → ℤ
at f s = f.p *ℤ s.x +ℤ f.q *ℤ s.y +ℤ f.r *ℤ s.w

-- a form is linear
at_a_mixture : (f : Form) (n : Four ℤ) (s : Four Spot) → at f (mixed n s) ≡ weighed n (of_each (at f) s)
at_a_mixture f n s =
    solve numbers (var 0 ⊗ weighedᵉ 7 ⊕ var 1 ⊗ weighedᵉ 8 ⊕ var 2 ⊗ weighedᵉ 9)
    (var 3 ⊗ atᵉ 7 8 9 ⊕ var 4 ⊗ atᵉ 10 11 12 ⊕ var 5 ⊗ atᵉ 13 14 15 ⊕ var 6 ⊗ atᵉ 16 17 18) tt
  where
    numbers : List ℤ
    numbers =
        f.p ∷ f.q ∷ f.r ∷ n.one ∷ n.two ∷ n.three ∷ n.four ∷ s.one.x ∷ s.one.y ∷ s.one.w ∷ s.two.x ∷ s.two.y ∷ s.two.w ∷ s.three.x ∷ s.three.y ∷ s.three.w ∷ s.four.x ∷ s.four.y ∷ s.four.w ∷ []

    atᵉ : ℕ → ℕ → ℕ → Expr
    atᵉ i j k = var 0 ⊗ var i ⊕ var 1 ⊗ var j ⊕ var 2 ⊗ var k

    weighedᵉ : ℕ → Expr
    weighedᵉ i = var 3 ⊗ var i ⊕ var 4 ⊗ var (3 + i) ⊕ var 5 ⊗ var (6 + i) ⊕ var 6 ⊗ var (9 + i)

-- a form that is positive at spots is positive at their mixtures
pub positive_at_mixtures : (f : Form) (n : Four ℤ) (s : Four Spot) → NotNegative n → 𝟘 <ℤ total n → Weighty (λ p. 𝟘 <ℤ at f p) n s → 𝟘 <ℤ at f (mixed n s)
positive_at_mixtures f n s h t m =
    subst (λ (z : ℤ). 𝟘 <ℤ z) (sym (at_a_mixture f n s))
    (positive_weighed n (of_each (at f) s) h t (record { one = m.one; two = m.two; three = m.three; four = m.four }))

-- where the form is positive
abbrev pub half : Form → Region
half f = record { In = λ s. 𝟘 <ℤ at f s; holds_mixtures = positive_at_mixtures f }

-- the first k of these forms are positive at the spot
pub record InEach (H : ℕ → Form) (k : ℕ) (s : Spot) : Type 0 where
  pub each : (i : ℕ) → i < k → 𝟘 <ℤ at (H i) s

-- the first k half-planes at once
abbrev pub halves : (ℕ → Form) → ℕ → Region
halves H k =
    record {
      In = InEach H k;
      holds_mixtures = λ n s h t m. record { each = λ i l. (half (H i)).holds_mixtures n s h t (weighty_too (λ p b. b.each i l) m) };
    }

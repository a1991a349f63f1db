-- Four points have weights that balance (Radon), so four regions of which any three meet have a point in common.
use mathlib.Core.List.{List, [], ◌∷◌}
use mathlib.Core.Logic.{◌⊎◌, inl, inr}
use mathlib.Core.Path.{◌≡◌, refl, sym, ◌∙◌, ap, subst}
use Prim.Native.Nat.{ℕ, zero, suc, ◌+◌}
use native.Mathlib.Omega.{arith}
use lib.Dec.{lt→ltb, le→leb}
use lib.IntN.{ℤ, pos, negsuc, neg_ℤ, ◌+ℤ◌, ◌-ℤ◌, ◌*ℤ◌, +ℤ_comm, +ℤ_idl, +ℤ_idr}
use lib.Signed.{◌<ℤ◌, ◌≤ℤ◌, le_z_yes, lt_z_yes}
use Rattle.exact.proofs.Order.{𝟘, positive_product, not_negative_sum}
use Rattle.exact.proofs.Solver.{Expr, solve, ◌⊕◌, ◌⊖◌, ◌⊗◌}
use Rattle.exact.proofs.Solver.Expr.{var, lit, neg}
use Rattle.exact.proofs.Certificate.{Fact, Cert, prove, ◌≺◌, ◌≼◌, ◌≈◌, ◌⊞◌, ◌⊠◌}
use Rattle.exact.proofs.Certificate.Cert.{given, number, square, by, one_less}
use Rattle.exact.proofs.Certificate.Proof.{only, both}
use Rattle.plane.specs.Side.{Point}
use Rattle.plane.specs.Cone.{cross}
use Rattle.plane.proofs.Quote.{coordinates, pt, 𝟘ᵉ, crossᵉ}
use Rattle.convex.proofs.Region.{Spot, Four, total, weighed, of_each, mixed, NotNegative, Weighty, positive_weighed, Region, Met, ◌∩◌}

-- ---- three vectors of the plane depend on each other

-- so many times each, not all zero times, they sum to nothing
record Dependent (u v t : Point) : Type 0 where
  a : ℤ
  b : ℤ
  c : ℤ
  along_x : a *ℤ u.x +ℤ b *ℤ v.x +ℤ c *ℤ t.x ≡ 𝟘
  along_y : a *ℤ u.y +ℤ b *ℤ v.y +ℤ c *ℤ t.y ≡ 𝟘
  not_all_zero : 𝟘 <ℤ (a *ℤ a +ℤ b *ℤ b +ℤ c *ℤ c)

one_up : (n : ℕ) → 𝟘 <ℤ pos (suc n)
one_up n = lt_z_yes (lt→ltb zero (suc n) (omega arith))

-- a number is zero or has a positive square
zero_or_not : (z : ℤ) → (z ≡ 𝟘) ⊎ (𝟘 <ℤ (z *ℤ z))
zero_or_not (pos zero) = inl refl
zero_or_not (pos (suc n)) = inr (positive_product (one_up n) (one_up n))
zero_or_not (negsuc n) = inr (positive_product (one_up n) (one_up n))

module _ (u v t : Point) where
  abbrev numbers : List ℤ
  numbers = coordinates (u ∷ v ∷ t ∷ [])

  -- u and v turn: each vector as often as the other two turn
  two_turn : 𝟘 <ℤ (cross u v *ℤ cross u v) → Dependent u v t
  unfolding cross
  two_turn h =
      record {
        a = cross v t;
        b = cross t u;
        c = cross u v;
        along_x = solve numbers (crossᵉ (pt 1) (pt 2) ⊗ var 0 ⊕ crossᵉ (pt 2) (pt 0) ⊗ var 2 ⊕ crossᵉ (pt 0) (pt 1) ⊗ var 4) 𝟘ᵉ tt;
        along_y = solve numbers (crossᵉ (pt 1) (pt 2) ⊗ var 1 ⊕ crossᵉ (pt 2) (pt 0) ⊗ var 3 ⊕ crossᵉ (pt 0) (pt 1) ⊗ var 5) 𝟘ᵉ tt;
        not_all_zero = prove (cross v t ∷ cross t u ∷ cross u v ∷ []) ((𝟘ᵉ ≺ var 2 ⊗ var 2) ∷ []) (𝟘ᵉ ≺ var 0 ⊗ var 0 ⊕ var 1 ⊗ var 1 ⊕ var 2 ⊗ var 2) (only (given 0 ⊞ given 1 ⊞ square (var 0) ⊞ square (var 1))) tt h;
      }

  -- u and v do not turn, and u goes sideways
  wide : cross u v ≡ 𝟘 → 𝟘 <ℤ (u.x *ℤ u.x) → Dependent u v t
  unfolding cross
  wide z h =
      record {
        a = v.x;
        b = neg_ℤ u.x;
        c = 𝟘;
        along_x = solve numbers (var 2 ⊗ var 0 ⊕ neg (var 0) ⊗ var 2 ⊕ 𝟘ᵉ ⊗ var 4) 𝟘ᵉ tt;
        along_y = solve numbers (var 2 ⊗ var 1 ⊕ neg (var 0) ⊗ var 3 ⊕ 𝟘ᵉ ⊗ var 5) (neg (crossᵉ (pt 0) (pt 1))) tt ∙ ap neg_ℤ z;
        not_all_zero = prove numbers ((𝟘ᵉ ≺ var 0 ⊗ var 0) ∷ []) (𝟘ᵉ ≺ var 2 ⊗ var 2 ⊕ neg (var 0) ⊗ neg (var 0) ⊕ 𝟘ᵉ ⊗ 𝟘ᵉ) (only (given 0 ⊞ given 1 ⊞ square (var 2))) tt h;
      }

  -- u and v do not turn, and u goes up or down
  high : cross u v ≡ 𝟘 → 𝟘 <ℤ (u.y *ℤ u.y) → Dependent u v t
  unfolding cross
  high z h =
      record {
        a = v.y;
        b = neg_ℤ u.y;
        c = 𝟘;
        along_x = solve numbers (var 3 ⊗ var 0 ⊕ neg (var 1) ⊗ var 2 ⊕ 𝟘ᵉ ⊗ var 4) (crossᵉ (pt 0) (pt 1)) tt ∙ z;
        along_y = solve numbers (var 3 ⊗ var 1 ⊕ neg (var 1) ⊗ var 3 ⊕ 𝟘ᵉ ⊗ var 5) 𝟘ᵉ tt;
        not_all_zero = prove numbers ((𝟘ᵉ ≺ var 1 ⊗ var 1) ∷ []) (𝟘ᵉ ≺ var 3 ⊗ var 3 ⊕ neg (var 1) ⊗ neg (var 1) ⊕ 𝟘ᵉ ⊗ 𝟘ᵉ) (only (given 0 ⊞ given 1 ⊞ square (var 3))) tt h;
      }

  -- u is nothing
  nowhere : u.x ≡ 𝟘 → u.y ≡ 𝟘 → Dependent u v t
  nowhere h k =
      record {
        a = pos 1;
        b = 𝟘;
        c = 𝟘;
        along_x = solve numbers (lit (pos 1) ⊗ var 0 ⊕ 𝟘ᵉ ⊗ var 2 ⊕ 𝟘ᵉ ⊗ var 4) (var 0) tt ∙ h;
        along_y = solve numbers (lit (pos 1) ⊗ var 1 ⊕ 𝟘ᵉ ⊗ var 3 ⊕ 𝟘ᵉ ⊗ var 5) (var 1) tt ∙ k;
        not_all_zero = one_up zero;
      }

  -- any three vectors do
  dependent : Dependent u v t
  dependent = by_turn (zero_or_not (cross u v))
    where
      by_height : cross u v ≡ 𝟘 → u.x ≡ 𝟘 → (u.y ≡ 𝟘) ⊎ (𝟘 <ℤ (u.y *ℤ u.y)) → Dependent u v t
      by_height z h (inl k) = nowhere h k
      by_height z h (inr k) = high z k

      by_width : cross u v ≡ 𝟘 → (u.x ≡ 𝟘) ⊎ (𝟘 <ℤ (u.x *ℤ u.x)) → Dependent u v t
      by_width z (inl h) = by_height z h (zero_or_not u.y)
      by_width z (inr h) = wide z h

      by_turn : (cross u v ≡ 𝟘) ⊎ (𝟘 <ℤ (cross u v *ℤ cross u v)) → Dependent u v t
      by_turn (inl z) = by_width z (zero_or_not u.x)
      by_turn (inr h) = two_turn h

-- ---- four points have weights that balance

-- so many times each, not all zero times, they sum to nothing
record Balance (s : Four Spot) : Type 0 where
  n : Four ℤ
  along_x : weighed n (of_each (λ p. p.x) s) ≡ 𝟘
  along_y : weighed n (of_each (λ p. p.y) s) ≡ 𝟘
  along_w : weighed n (of_each (λ p. p.w) s) ≡ 𝟘
  not_all_zero : 𝟘 <ℤ weighed n n

-- from one spot to another, times both their w
abbrev seen : Spot → Spot → Point
seen o p = record { x = o.w *ℤ p.x -ℤ p.w *ℤ o.x; y = o.w *ℤ p.y -ℤ p.w *ℤ o.y }

-- the vectors from the first point to the other three depend on each other
balance : (s : Four Spot) → 𝟘 <ℤ s.one.w → Balance s
balance s h =
    record {
      n = n;
      along_x = summed (λ p. p.x) ∙ D.along_x;
      along_y = summed (λ p. p.y) ∙ D.along_y;
      along_w = summed (λ p. p.w) ∙ solve (numbers (λ p. p.w)) (differencesᵉ (var 3) (var 4) (var 5) (var 6)) 𝟘ᵉ tt;
      not_all_zero = prove (numbers (λ p. p.w)) ((𝟘ᵉ ≺ var 3) ∷ (𝟘ᵉ ≺ var 0 ⊗ var 0 ⊕ var 1 ⊗ var 1 ⊕ var 2 ⊗ var 2) ∷ []) (𝟘ᵉ ≺ firstᵉ ⊗ firstᵉ ⊕ var 3 ⊗ var 0 ⊗ (var 3 ⊗ var 0) ⊕ var 3 ⊗ var 1 ⊗ (var 3 ⊗ var 1) ⊕ var 3 ⊗ var 2 ⊗ (var 3 ⊗ var 2)) (only (given 0 ⊞ given 1 ⊠ given 1 ⊠ given 2 ⊞ square firstᵉ)) tt h D.not_all_zero;
    }
  where
    D : Dependent (seen s.one s.two) (seen s.one s.three) (seen s.one s.four)
    D = dependent _ _ _

    w : Four ℤ
    w = of_each (λ p. p.w) s

    n : Four ℤ
    n =
        record {
          one = neg_ℤ (D.a *ℤ w.two +ℤ D.b *ℤ w.three +ℤ D.c *ℤ w.four);
          two = w.one *ℤ D.a;
          three = w.one *ℤ D.b;
          four = w.one *ℤ D.c;
        }

    numbers : (Spot → ℤ) → List ℤ
    numbers f = D.a ∷ D.b ∷ D.c ∷ w.one ∷ w.two ∷ w.three ∷ w.four ∷ f s.one ∷ f s.two ∷ f s.three ∷ f s.four ∷ []

    firstᵉ : Expr
    firstᵉ = neg (var 0 ⊗ var 4 ⊕ var 1 ⊗ var 5 ⊕ var 2 ⊗ var 6)

    differencesᵉ : Expr → Expr → Expr → Expr → Expr
    differencesᵉ a b c d =
        var 0 ⊗ (var 3 ⊗ b ⊖ var 4 ⊗ a) ⊕ var 1 ⊗ (var 3 ⊗ c ⊖ var 5 ⊗ a) ⊕ var 2 ⊗ (var 3 ⊗ d ⊖ var 6 ⊗ a)

    summed : (f : Spot → ℤ) → weighed n (of_each f s) ≡ D.a *ℤ (w.one *ℤ f s.two -ℤ w.two *ℤ f s.one) +ℤ D.b *ℤ (w.one *ℤ f s.three -ℤ w.three *ℤ f s.one) +ℤ D.c *ℤ (w.one *ℤ f s.four -ℤ w.four *ℤ f s.one)
    summed f =
        solve (numbers f) (firstᵉ ⊗ var 7 ⊕ var 3 ⊗ var 0 ⊗ var 8 ⊕ var 3 ⊗ var 1 ⊗ var 9 ⊕ var 3 ⊗ var 2 ⊗ var 10)
        (differencesᵉ (var 7) (var 8) (var 9) (var 10)) tt

-- ---- the weights above zero and those below

-- z where it is positive, otherwise 0
abbrev up : ℤ → ℤ
up (pos n) = pos n
up (negsuc n) = 𝟘

-- −z where it is positive, otherwise 0
abbrev down : ℤ → ℤ
down (pos n) = 𝟘
down (negsuc n) = pos (suc n)

one_is_zero : (z : ℤ) → (up z ≡ 𝟘) ⊎ (down z ≡ 𝟘)
one_is_zero (pos n) = inr refl
one_is_zero (negsuc n) = inl refl

pos_not_negative : (n : ℕ) → 𝟘 ≤ℤ pos n
pos_not_negative n = le_z_yes (le→leb zero n (omega arith))

up_not_negative : (z : ℤ) → 𝟘 ≤ℤ up z
up_not_negative (pos n) = pos_not_negative n
up_not_negative (negsuc n) = pos_not_negative zero

down_not_negative : (z : ℤ) → 𝟘 ≤ℤ down z
down_not_negative (pos n) = pos_not_negative zero
down_not_negative (negsuc n) = pos_not_negative (suc n)

size_not_negative : (z : ℤ) → 𝟘 ≤ℤ (up z +ℤ down z)
size_not_negative z = not_negative_sum (up_not_negative z) (down_not_negative z)

-- z is what is above zero less what is below
up_less_down : (z : ℤ) → up z -ℤ down z ≡ z
up_less_down (pos n) = +ℤ_idr (pos n)
up_less_down (negsuc n) = +ℤ_idl (negsuc n)

-- and their sum is the size of z
size_squared : (z : ℤ) → (up z +ℤ down z) *ℤ (up z +ℤ down z) ≡ z *ℤ z
size_squared (pos n) = ap (λ t. t *ℤ t) (+ℤ_idr (pos n))
size_squared (negsuc n) = ap (λ t. t *ℤ t) (+ℤ_idl (pos (suc n)))

abbrev each_of : (ℤ → ℤ) → Four ℤ → Four ℤ
each_of f n = record { one = f n.one; two = f n.two; three = f n.three; four = f n.four }

-- no weight is negative where f makes no number negative
none_negative : (f : ℤ → ℤ) (n : Four ℤ) → ((z : ℤ) → 𝟘 ≤ℤ f z) → NotNegative (each_of f n)
none_negative f n h = record { one = h n.one; two = h n.two; three = h n.three; four = h n.four }

-- the sum of four variables from i on, quoted
abbrev totalᵉ : ℕ → Expr
totalᵉ i = var i ⊕ var (1 + i) ⊕ var (2 + i) ⊕ var (3 + i)

-- four variables from i on weigh four from j on, quoted
abbrev weighedᵉ : ℕ → ℕ → Expr
weighedᵉ i j = var i ⊗ var j ⊕ var (1 + i) ⊗ var (1 + j) ⊕ var (2 + i) ⊗ var (2 + j) ⊕ var (3 + i) ⊗ var (3 + j)

abbrev listed : Four ℤ → List ℤ → List ℤ
listed n ρ = n.one ∷ n.two ∷ n.three ∷ n.four ∷ ρ

-- weights that balance are as heavy above zero as below
same_weight : (n v : Four ℤ) → weighed n v ≡ 𝟘 → weighed (each_of up n) v ≡ weighed (each_of down n) v
same_weight n v =
    prove numbers ((var 4 ⊖ var 8 ≈ var 0) ∷ (var 5 ⊖ var 9 ≈ var 1) ∷ (var 6 ⊖ var 10 ≈ var 2) ∷ (var 7 ⊖ var 11 ≈ var 3) ∷ (weighedᵉ 0 12 ≈ 𝟘ᵉ) ∷ [])
    (weighedᵉ 4 12 ≈ weighedᵉ 8 12)
    (both not_lighter not_heavier) (tt, tt)
    (up_less_down n.one) (up_less_down n.two) (up_less_down n.three) (up_less_down n.four)
  where
    numbers : List ℤ
    numbers = listed n (listed (each_of up n) (listed (each_of down n) (listed v [])))

    not_lighter : Cert
    not_lighter =
        given 0 ⊞ by (neg (var 12)) (given 1) ⊞ by (neg (var 13)) (given 2) ⊞ by (neg (var 14)) (given 3) ⊞ by (neg (var 15)) (given 4) ⊞ by (lit (negsuc 0)) (given 5)

    not_heavier : Cert
    not_heavier = given 0 ⊞ by (var 12) (given 1) ⊞ by (var 13) (given 2) ⊞ by (var 14) (given 3) ⊞ by (var 15) (given 4) ⊞ given 5

-- they are not all zero, so neither are their sizes
some_size : (n : Four ℤ) → 𝟘 <ℤ weighed n n → 𝟘 <ℤ (total (each_of up n) +ℤ total (each_of down n))
some_size n =
    prove numbers
    ((𝟘ᵉ ≼ sizeᵉ 0) ∷ (𝟘ᵉ ≼ sizeᵉ 1) ∷ (𝟘ᵉ ≼ sizeᵉ 2) ∷ (𝟘ᵉ ≼ sizeᵉ 3) ∷ same 0 ∷ same 1 ∷ same 2 ∷ same 3 ∷ (𝟘ᵉ ≺ weighedᵉ 0 0) ∷ [])
    (𝟘ᵉ ≺ totalᵉ 4 ⊕ totalᵉ 8)
    (only (given 0 ⊠ (given 1 ⊞ given 2 ⊞ given 3 ⊞ given 4) ⊞ number 1 ⊠ (given 1 ⊠ (given 2 ⊞ given 3 ⊞ given 4) ⊞ given 2 ⊠ (given 3 ⊞ given 4) ⊞ given 3 ⊠ given 4) ⊞ given 9 ⊞ by (lit (negsuc 0)) (given 5 ⊞ given 6 ⊞ given 7 ⊞ given 8)))
    tt
    (size_not_negative n.one) (size_not_negative n.two) (size_not_negative n.three) (size_not_negative n.four)
    (size_squared n.one) (size_squared n.two) (size_squared n.three) (size_squared n.four)
  where
    numbers : List ℤ
    numbers = listed n (listed (each_of up n) (listed (each_of down n) []))

    sizeᵉ : ℕ → Expr
    sizeᵉ i = var (4 + i) ⊕ var (8 + i)

    same : ℕ → Fact
    same i = sizeᵉ i ⊗ sizeᵉ i ≈ var i ⊗ var i

-- each of the four is positive
record AllPositive (w : Four ℤ) : Type 0 where
  one : 𝟘 <ℤ w.one
  two : 𝟘 <ℤ w.two
  three : 𝟘 <ℤ w.three
  four : 𝟘 <ℤ w.four

-- where two kinds of weights are equally heavy and not all are zero, not all of one kind are
some_weight : (n m w : Four ℤ) → NotNegative n → NotNegative m → AllPositive w → weighed n w ≡ weighed m w → 𝟘 <ℤ (total n +ℤ total m) → 𝟘 <ℤ total n
some_weight n m w h k l =
    prove numbers
    ((𝟘ᵉ ≼ var 0) ∷ (𝟘ᵉ ≼ var 1) ∷ (𝟘ᵉ ≼ var 2) ∷ (𝟘ᵉ ≼ var 3) ∷ (𝟘ᵉ ≼ var 4) ∷ (𝟘ᵉ ≼ var 5) ∷ (𝟘ᵉ ≼ var 6) ∷ (𝟘ᵉ ≼ var 7) ∷ (𝟘ᵉ ≺ var 8) ∷ (𝟘ᵉ ≺ var 9) ∷ (𝟘ᵉ ≺ var 10) ∷ (𝟘ᵉ ≺ var 11) ∷ (weighedᵉ 0 8 ≈ weighedᵉ 4 8) ∷ (𝟘ᵉ ≺ totalᵉ 0 ⊕ totalᵉ 4) ∷ [])
    (𝟘ᵉ ≺ totalᵉ 0)
    (only (given 0 ⊞ given 0 ⊠ (given 9 ⊞ given 10 ⊞ given 11 ⊞ given 12) ⊞ given 1 ⊠ (given 10 ⊞ given 11 ⊞ given 12) ⊞ given 2 ⊠ (given 9 ⊞ given 11 ⊞ given 12) ⊞ given 3 ⊠ (given 9 ⊞ given 10 ⊞ given 12) ⊞ given 4 ⊠ (given 9 ⊞ given 10 ⊞ given 11) ⊞ by (lit (negsuc 0)) (given 13) ⊞ given 5 ⊠ one_less (given 9) ⊞ given 6 ⊠ one_less (given 10) ⊞ given 7 ⊠ one_less (given 11) ⊞ given 8 ⊠ one_less (given 12) ⊞ given 14))
    tt
    h.one h.two h.three h.four k.one k.two k.three k.four l.one l.two l.three l.four
  where
    numbers : List ℤ
    numbers = listed n (listed m (listed w []))

-- ---- four regions

same_spot : {p q : Spot} → p.x ≡ q.x → p.y ≡ q.y → p.w ≡ q.w → p ≡ q
same_spot h k l = λ i. record { x = h i; y = k i; w = l i }

-- the point where what is above zero balances what is below
module _ (s : Four Spot) (positive : AllPositive (of_each (λ p. p.w) s)) where
  abbrev weights : Four ℤ
  weights = (balance s positive.one).n

  abbrev above : Four ℤ
  above = each_of up weights

  abbrev below : Four ℤ
  below = each_of down weights

  above_not_negative : NotNegative above
  above_not_negative = none_negative up weights up_not_negative

  below_not_negative : NotNegative below
  below_not_negative = none_negative down weights down_not_negative

  same_w : weighed above (of_each (λ p. p.w) s) ≡ weighed below (of_each (λ p. p.w) s)
  same_w = same_weight weights (of_each (λ p. p.w) s) (balance s positive.one).along_w

  -- the mixture by those below is that by those above
  same_place : mixed below s ≡ mixed above s
  same_place =
      same_spot
      (sym (same_weight weights (of_each (λ p. p.x) s) (balance s positive.one).along_x))
      (sym (same_weight weights (of_each (λ p. p.y) s) (balance s positive.one).along_y))
      (sym same_w)

  -- not all weights above zero are zero
  some_above : 𝟘 <ℤ total above
  some_above = some_weight above below _ above_not_negative below_not_negative positive same_w (some_size weights (balance s positive.one).not_all_zero)

  -- nor all below
  some_below : 𝟘 <ℤ total below
  some_below =
      some_weight below above _ below_not_negative above_not_negative positive (sym same_w)
      (subst (λ (z : ℤ). 𝟘 <ℤ z) (+ℤ_comm (total above) (total below)) (some_size weights (balance s positive.one).not_all_zero))

  -- that mixture is a point
  is_a_point : 𝟘 <ℤ (mixed above s).w
  is_a_point =
      positive_weighed above (of_each (λ p. p.w) s) above_not_negative some_above
      (record { one = inr positive.one; two = inr positive.two; three = inr positive.three; four = inr positive.four })

  -- it is in a region that holds the other three spots
  lies_in : (S : Region) (of : Four ℤ → ℤ) → (of above ≡ 𝟘) ⊎ (of below ≡ 𝟘) → ((n : Four ℤ) → of n ≡ 𝟘 → Weighty S.In n s) → S.In (mixed above s)
  lies_in S of (inl z) h = S.holds_mixtures above s above_not_negative some_above (h above z)
  lies_in S of (inr z) h = subst S.In same_place (S.holds_mixtures below s below_not_negative some_below (h below z))

-- four regions of which any three meet have a point in common
pub all_four_meet : (K L M N : Region) → Met (L ∩ M ∩ N) → Met (K ∩ M ∩ N) → Met (K ∩ L ∩ N) → Met (K ∩ L ∩ M) → Met ((K ∩ L) ∩ M ∩ N)
all_four_meet K L M N a b c d =
    record {
      spot = mixed (above s positive) s;
      positive = is_a_point s positive;
      in_it = record { first = record { first = in_K; second = in_L }; second = record { first = in_M; second = in_N } };
    }
  where
    s : Four Spot
    s = record { one = a.spot; two = b.spot; three = c.spot; four = d.spot }

    positive : AllPositive (of_each (λ p. p.w) s)
    positive = record { one = a.positive; two = b.positive; three = c.positive; four = d.positive }

    n : Four ℤ
    n = weights s positive

    in_K : K.In (mixed (above s positive) s)
    in_K =
        lies_in s positive K (λ n. n.one) (one_is_zero n.one)
        (λ n z. record { one = inl z; two = inr b.in_it.first; three = inr c.in_it.first; four = inr d.in_it.first })

    in_L : L.In (mixed (above s positive) s)
    in_L =
        lies_in s positive L (λ n. n.two) (one_is_zero n.two)
        (λ n z. record { one = inr a.in_it.first; two = inl z; three = inr c.in_it.second.first; four = inr d.in_it.second.first })

    in_M : M.In (mixed (above s positive) s)
    in_M =
        lies_in s positive M (λ n. n.three) (one_is_zero n.three)
        (λ n z. record { one = inr a.in_it.second.first; two = inr b.in_it.second.first; three = inl z; four = inr d.in_it.second.second })

    in_N : N.In (mixed (above s positive) s)
    in_N =
        lies_in s positive N (λ n. n.four) (one_is_zero n.four)
        (λ n z. record { one = inr a.in_it.second.second; two = inr b.in_it.second.second; three = inr c.in_it.second.second; four = inl z })

-- A ring solver by reflection. An equation of whole numbers is quoted, both sides are brought to one polynomial form, and `solve` proves the
-- equation where the difference of the two forms has no term left. Where some are left, the refusal of `tt` shows them (`Left`).
use mathlib.Core.Path.{◌≡◌, refl, sym, ◌∙◌, ap, ap₂}
use mathlib.Core.Bool.{Bool, true, false, ◌&&◌}
use mathlib.Core.List.{List, [], ◌∷◌, ◌++◌, map}
use Prim.Native.Nat.{ℕ, zero, suc}
use lib.Dec.{T}
use lib.IntN.{ℤ, pos, negsuc, neg_ℤ, ◌+ℤ◌, ◌-ℤ◌, ◌*ℤ◌, +ℤ_assoc, +ℤ_idl, +ℤ_idr, -ℤ-+ℤ_cancel, zero-*ℤ, *ℤ-zero, *ℤ_comm, *ℤ-one, one}
use Rattle.exact.proofs.Ring.{distributive_left, distributive_right, product_associative, negation_out_left, swap_last}

-- ---- quoted expressions

infixl 6 ◌⊕◌ ◌⊖◌
infixl 7 ◌⊗◌
pub data Expr : Type 0 where
  var : ℕ → Expr
  lit : ℤ → Expr
  ◌⊕◌ : Expr → Expr → Expr
  ◌⊖◌ : Expr → Expr → Expr
  ◌⊗◌ : Expr → Expr → Expr
  neg : Expr → Expr

-- the numbers that the variables stand for; 0 past the end
abbrev pub head : List ℤ → ℤ
head [] = pos zero
head (x ∷ ρ) = x

abbrev pub tail : List ℤ → List ℤ
tail [] = []
tail (x ∷ ρ) = ρ

abbrev pub look : ℕ → List ℤ → ℤ
look zero ρ = head ρ
look (suc i) ρ = look i (tail ρ)

abbrev pub value : List ℤ → Expr → ℤ
value ρ (var i) = look i ρ
value ρ (lit k) = k
value ρ (e ⊕ f) = value ρ e +ℤ value ρ f
value ρ (e ⊖ f) = value ρ e -ℤ value ρ f
value ρ (e ⊗ f) = value ρ e *ℤ value ρ f
value ρ (neg e) = neg_ℤ (value ρ e)

-- ---- polynomials in nested Horner form: `hor a p` is a + x·p, with x the first variable and a over the others

pub data Poly : Type 0 where
  con : ℤ → Poly
  hor : Poly → Poly → Poly

abbrev pub worth : Poly → List ℤ → ℤ
worth (con c) ρ = c
worth (hor a p) ρ = worth a (tail ρ) +ℤ head ρ *ℤ worth p ρ

-- a + x·p, without a node where x·p is 0 and a is a number
abbrev pub node : Poly → Poly → Poly
node (con c) (con (pos zero)) = con c
node (con c) (con (pos (suc n))) = hor (con c) (con (pos (suc n)))
node (con c) (con (negsuc n)) = hor (con c) (con (negsuc n))
node (con c) (hor b q) = hor (con c) (hor b q)
node (hor a p) q = hor (hor a p) q

abbrev pub plus : Poly → Poly → Poly
plus (con c) (con d) = con (c +ℤ d)
plus (con c) (hor b q) = hor (plus (con c) b) q
plus (hor a p) (con d) = hor (plus a (con d)) p
plus (hor a p) (hor b q) = node (plus a b) (plus p q)

abbrev pub scale : ℤ → Poly → Poly
scale c (con d) = con (c *ℤ d)
scale c (hor a p) = hor (scale c a) (scale c p)

-- a product whose first factor is over the variables after the first, by the function that multiplies with it there
abbrev pub spread : (Poly → Poly) → Poly → Poly
spread f (con d) = node (f (con d)) (con (pos zero))
spread f (hor b q) = node (f b) (spread f q)

abbrev pub times : Poly → Poly → Poly
times (con (pos zero)) q = con (pos zero)
times (con (pos (suc zero))) q = q
times (con (pos (suc (suc n)))) q = scale (pos (suc (suc n))) q
times (con (negsuc n)) q = scale (negsuc n) q
times (hor a p) q = plus (spread (times a) q) (node (con (pos zero)) (times p q))

abbrev pub minus_one : ℤ
minus_one = negsuc zero

abbrev pub variable : ℕ → Poly
variable zero = hor (con (pos zero)) (con (pos (suc zero)))
variable (suc i) = hor (variable i) (con (pos zero))

abbrev pub normal : Expr → Poly
normal (var i) = variable i
normal (lit k) = con k
normal (e ⊕ f) = plus (normal e) (normal f)
normal (e ⊖ f) = plus (normal e) (scale minus_one (normal f))
normal (e ⊗ f) = times (normal e) (normal f)
normal (neg e) = scale minus_one (normal e)

-- ---- the form keeps the value

-- (a + b) + h(p + q) is (a + hp) + (b + hq)
four : (h a b p q : ℤ) → (a +ℤ b) +ℤ h *ℤ (p +ℤ q) ≡ (a +ℤ h *ℤ p) +ℤ (b +ℤ h *ℤ q)
four h a b p q =
    ap (λ x. (a +ℤ b) +ℤ x) (distributive_left h p q)
    ∙ sym (+ℤ_assoc (a +ℤ b) (h *ℤ p) (h *ℤ q))
    ∙ ap (λ x. x +ℤ h *ℤ q) (swap_last a b (h *ℤ p))
    ∙ +ℤ_assoc (a +ℤ h *ℤ p) b (h *ℤ q)

-- h(Fq) is F(hq)
past : (h f q : ℤ) → h *ℤ (f *ℤ q) ≡ f *ℤ (h *ℤ q)
past h f q = sym (product_associative h f q) ∙ ap (λ x. x *ℤ q) (*ℤ_comm h f) ∙ product_associative f h q

nothing_more : (h a : ℤ) → a +ℤ h *ℤ pos zero ≡ a
nothing_more h a = ap (λ x. a +ℤ x) (*ℤ-zero h) ∙ +ℤ_idr a

node_worth : (a p : Poly) (ρ : List ℤ) → worth (node a p) ρ ≡ worth a (tail ρ) +ℤ head ρ *ℤ worth p ρ
node_worth (con c) (con (pos zero)) ρ = sym (nothing_more (head ρ) c)
node_worth (con c) (con (pos (suc n))) ρ = refl
node_worth (con c) (con (negsuc n)) ρ = refl
node_worth (con c) (hor b q) ρ = refl
node_worth (hor a p) q ρ = refl

pub plus_worth : (p q : Poly) (ρ : List ℤ) → worth (plus p q) ρ ≡ worth p ρ +ℤ worth q ρ
plus_worth (con c) (con d) ρ = refl
plus_worth (con c) (hor b q) ρ =
    ap (λ x. x +ℤ head ρ *ℤ worth q ρ) (plus_worth (con c) b (tail ρ)) ∙ +ℤ_assoc c (worth b (tail ρ)) (head ρ *ℤ worth q ρ)
plus_worth (hor a p) (con d) ρ =
    ap (λ x. x +ℤ head ρ *ℤ worth p ρ) (plus_worth a (con d) (tail ρ)) ∙ swap_last (worth a (tail ρ)) d (head ρ *ℤ worth p ρ)
plus_worth (hor a p) (hor b q) ρ =
    node_worth (plus a b) (plus p q) ρ
    ∙ ap₂ (λ x y. x +ℤ head ρ *ℤ y) (plus_worth a b (tail ρ)) (plus_worth p q ρ)
    ∙ four (head ρ) (worth a (tail ρ)) (worth b (tail ρ)) (worth p ρ) (worth q ρ)

scale_worth : (c : ℤ) (p : Poly) (ρ : List ℤ) → worth (scale c p) ρ ≡ c *ℤ worth p ρ
scale_worth c (con d) ρ = refl
scale_worth c (hor a p) ρ =
    ap₂ (λ x y. x +ℤ head ρ *ℤ y) (scale_worth c a (tail ρ)) (scale_worth c p ρ)
    ∙ ap (λ x. c *ℤ worth a (tail ρ) +ℤ x) (past (head ρ) c (worth p ρ))
    ∙ sym (distributive_left c (worth a (tail ρ)) (head ρ *ℤ worth p ρ))

spread_worth : (f : Poly → Poly) (k : ℤ) (q : Poly) (ρ : List ℤ) → ((b : Poly) → worth (f b) (tail ρ) ≡ k *ℤ worth b (tail ρ)) → worth (spread f q) ρ ≡ k *ℤ worth q ρ
spread_worth f k (con d) ρ h = node_worth (f (con d)) (con (pos zero)) ρ ∙ nothing_more (head ρ) (worth (f (con d)) (tail ρ)) ∙ h (con d)
spread_worth f k (hor b q) ρ h =
    node_worth (f b) (spread f q) ρ
    ∙ ap₂ (λ x y. x +ℤ head ρ *ℤ y) (h b) (spread_worth f k q ρ h)
    ∙ ap (λ x. k *ℤ worth b (tail ρ) +ℤ x) (past (head ρ) k (worth q ρ))
    ∙ sym (distributive_left k (worth b (tail ρ)) (head ρ *ℤ worth q ρ))

one_times : (m : ℤ) → m ≡ pos (suc zero) *ℤ m
unfolding one
one_times m = sym (*ℤ_comm (pos (suc zero)) m ∙ *ℤ-one m)

pub times_worth : (p q : Poly) (ρ : List ℤ) → worth (times p q) ρ ≡ worth p ρ *ℤ worth q ρ
times_worth (con (pos zero)) q ρ = sym (zero-*ℤ (worth q ρ))
times_worth (con (pos (suc zero))) q ρ = one_times (worth q ρ)
times_worth (con (pos (suc (suc n)))) q ρ = scale_worth (pos (suc (suc n))) q ρ
times_worth (con (negsuc n)) q ρ = scale_worth (negsuc n) q ρ
times_worth (hor a p) q ρ =
    plus_worth (spread (times a) q) (node (con (pos zero)) (times p q)) ρ
    ∙ ap₂ (λ x y. x +ℤ y) (spread_worth (times a) (worth a (tail ρ)) q ρ (λ b. times_worth a b (tail ρ))) (rest (times_worth p q ρ))
    ∙ sym (distributive_right (worth a (tail ρ)) (head ρ *ℤ worth p ρ) (worth q ρ))
  where
    rest : worth (times p q) ρ ≡ worth p ρ *ℤ worth q ρ → worth (node (con (pos zero)) (times p q)) ρ ≡ (head ρ *ℤ worth p ρ) *ℤ worth q ρ
    rest h =
        node_worth (con (pos zero)) (times p q) ρ
        ∙ +ℤ_idl (head ρ *ℤ worth (times p q) ρ)
        ∙ ap (λ x. head ρ *ℤ x) h
        ∙ sym (product_associative (head ρ) (worth p ρ) (worth q ρ))

variable_worth : (i : ℕ) (ρ : List ℤ) → worth (variable i) ρ ≡ look i ρ
unfolding one
variable_worth zero ρ = +ℤ_idl (head ρ *ℤ pos (suc zero)) ∙ *ℤ-one (head ρ)
variable_worth (suc i) ρ = nothing_more (head ρ) (worth (variable i) (tail ρ)) ∙ variable_worth i (tail ρ)

minus_worth : (p : Poly) (ρ : List ℤ) → worth (scale minus_one p) ρ ≡ neg_ℤ (worth p ρ)
minus_worth p ρ = scale_worth minus_one p ρ ∙ negation_out_left (pos (suc zero)) (worth p ρ) ∙ ap neg_ℤ (sym (one_times (worth p ρ)))

pub normal_worth : (ρ : List ℤ) (e : Expr) → worth (normal e) ρ ≡ value ρ e
normal_worth ρ (var i) = variable_worth i ρ
normal_worth ρ (lit k) = refl
normal_worth ρ (e ⊕ f) = plus_worth (normal e) (normal f) ρ ∙ ap₂ ◌+ℤ◌ (normal_worth ρ e) (normal_worth ρ f)
normal_worth ρ (e ⊖ f) =
    plus_worth (normal e) (scale minus_one (normal f)) ρ
    ∙ ap₂ (λ x y. x +ℤ y) (normal_worth ρ e) (minus_worth (normal f) ρ ∙ ap neg_ℤ (normal_worth ρ f))
normal_worth ρ (e ⊗ f) = times_worth (normal e) (normal f) ρ ∙ ap₂ ◌*ℤ◌ (normal_worth ρ e) (normal_worth ρ f)
normal_worth ρ (neg e) = minus_worth (normal e) ρ ∙ ap neg_ℤ (normal_worth ρ e)

-- ---- nothing left

abbrev pub nothing : Poly → Bool
nothing (con (pos zero)) = true
nothing (con (pos (suc n))) = false
nothing (con (negsuc n)) = false
nothing (hor a p) = nothing a && nothing p

-- a term that is left: its coefficient, and the exponent of each variable in turn
infix 4 ◌·◌
pub data Term : Type 0 where
  ◌·◌ : ℤ → List ℕ → Term

abbrev pub absent : Term → Term
absent (c · es) = c · (zero ∷ es)

abbrev pub once_more : Term → Term
once_more (c · []) = c · (suc zero ∷ [])
once_more (c · (e ∷ es)) = c · (suc e ∷ es)

abbrev pub terms : Poly → List Term
terms (con (pos zero)) = []
terms (con (pos (suc n))) = (pos (suc n) · []) ∷ []
terms (con (negsuc n)) = (negsuc n · []) ∷ []
terms (hor a p) = map absent (terms a) ++ map once_more (terms p)

-- these terms are left, so there is no proof
pub record Left (ts : List Term) : Type 0 where
  pub none : ⊥

abbrev pub SettledIf : Bool → Poly → Type 0
SettledIf true p = Unit {0}
SettledIf false p = Left (terms p)

-- nothing is left of p. At a quoted equation that holds, `tt` proves it
abbrev pub Settled : Poly → Type 0
Settled p = SettledIf (nothing p) p

T_both : (s t : Bool) → T (s && t) → T s × T t
T_both true t h = (tt, h)
T_both false t h = absurd h

nothing_worth : (p : Poly) (ρ : List ℤ) → T (nothing p) → worth p ρ ≡ pos zero
nothing_worth (con (pos zero)) ρ h = refl
nothing_worth (con (pos (suc n))) ρ h = absurd h
nothing_worth (con (negsuc n)) ρ h = absurd h
nothing_worth (hor a p) ρ h =
    let k : T (nothing a) × T (nothing p) = T_both (nothing a) (nothing p) h in
    ap₂ (λ x y. x +ℤ head ρ *ℤ y) (nothing_worth a (tail ρ) k.0) (nothing_worth p ρ k.1) ∙ nothing_more (head ρ) (pos zero)

is_settled : (t : Bool) (p : Poly) → SettledIf t p → T t
is_settled true p s = tt
is_settled false p s = absurd s.none

pub settled_worth : (p : Poly) (ρ : List ℤ) → Settled p → worth p ρ ≡ pos zero
settled_worth p ρ s = nothing_worth p ρ (is_settled (nothing p) p s)

-- ---- the solver

pub solve : (ρ : List ℤ) (e f : Expr) → Settled (normal (e ⊖ f)) → value ρ e ≡ value ρ f
solve ρ e f s =
    sym (-ℤ-+ℤ_cancel (value ρ e) (value ρ f))
    ∙ ap (λ x. x +ℤ value ρ f) (sym (normal_worth ρ (e ⊖ f)) ∙ settled_worth (normal (e ⊖ f)) ρ s)
    ∙ +ℤ_idl (value ρ f)

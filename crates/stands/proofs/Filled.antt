-- An array made place by place, and the stands of a list in its first places: one of each three numbers.
use mathlib.Core.List.{List, [], ◌∷◌}
use mathlib.Core.Logic.{◌⊎◌, inl, inr}
use mathlib.Core.Path.{◌≡◌, refl, sym, ◌∙◌, subst}
use Prim.Native.Nat.{ℕ, zero, suc, ◌+◌, ◌/◌, ◌≤◌, ◌<◌}
use native.Mathlib.Nat.{eq-or-lt_of_le}
use native.Mathlib.Omega.{arith}
use denote.Param.Members.{Mut}
use lib.Ieee.{Float, nan}
use lib.ListN.{length, get_or, take}
use Rattle.std.specs.Array.{IsFromFnResultFrom}
use Rattle.std.specs.Fn.{Called}
use Rattle.std.specs.Simd.{first_chunks}
use Rattle.std.proofs.lemmas.List.{ext_get_or, get_or-take, length-take-le}
use Rattle.limits.specs.Limits.{most_stands}
use Rattle.stand.specs.declared.spot.Stand.{Stand}
use Rattle.stand.specs.declared.spot.Stand.TheVariants.{Offset}
use Rattle.stands.specs.Numbered.{no_corner, stand_of, stands_of}
use Rattle.stands.proofs.Numbered.{length_of_stands}

-- a call at each place from i on, none of which changes what was captured
module _ {F B : Type 0} {g : Mut F (ℕ × Unit {0}) B} (f : F) (t : ℕ → B) (m : ℕ) (called : (i : ℕ) (y : B) (q : F) → Called g f (i, tt) y q → (q ≡ f) × (i < m → y ≡ t i)) where
  pub made_from : (ys : List B) (i n : ℕ) → IsFromFnResultFrom g f ys i n → (k : ℕ) (d : B) → i ≤ k → k < i + n → k < m → get_or ys k d ≡ t k
  made_from ys i zero r k d h l j = absurd (omega arith)
  made_from ys i (suc n) r k d h l j = by_place (eq-or-lt_of_le h) (λ later. made_from ys (i + 1) n (subst (λ (p : F). IsFromFnResultFrom g p ys (i + 1) n) (called i r.1 r.0 r.3).0 r.4) k d later (omega arith) j)
    where
      by_place : (i ≡ k) ⊎ (i < k) → (i + 1 ≤ k → get_or ys k d ≡ t k) → get_or ys k d ≡ t k
      by_place (inl e) rest = subst (λ (k : ℕ). k < m → get_or ys k d ≡ t k) e (λ j. r.2.1 d ∙ (called i r.1 r.0 r.3).1 j) j
      by_place (inr later) rest = rest (omega arith)

-- ---- three numbers a stand

-- the stand of the three numbers at place i
abbrev pub stand_in : List (List Float) → ℕ → Stand
stand_in triples i = stand_of (get_or (get_or triples i []) 0 nan) (get_or (get_or triples i []) 1 nan) (get_or (get_or triples i []) 2 nan)

stand_in_its_place : (ns : List Float) (n i : ℕ) (d : Stand) → n ≤ length ns / 3 → i < n → get_or (stands_of ns) i d ≡ stand_in (first_chunks 3 n ns) i
unfolding stands_of
stand_in_its_place ns zero i d h l = absurd (omega arith)
stand_in_its_place [] (suc n) i d h l = absurd (omega arith)
stand_in_its_place (a ∷ []) (suc n) i d h l = absurd (omega arith)
stand_in_its_place (a ∷ b ∷ []) (suc n) i d h l = absurd (omega arith)
stand_in_its_place (a ∷ b ∷ c ∷ rest) (suc n) zero d h l = refl
stand_in_its_place (a ∷ b ∷ c ∷ rest) (suc n) (suc i) d h l = stand_in_its_place rest n i d (omega arith) (omega arith)

module _ (ns : List Float) (triples : List (List Float)) (stands : List Stand) (is : triples ≡ first_chunks 3 (length ns / 3) ns) (many : length triples ≡ length ns / 3) where
  pub all_stands : length stands ≡ most_stands → length ns / 3 ≤ most_stands
      → ((i : ℕ) (d : Stand) → 0 ≤ i → i < 0 + most_stands → i < length triples → get_or stands i d ≡ stand_in triples i) → take (length ns / 3) stands ≡ stands_of ns
  all_stands room few made =
      let n = length ns / 3 in
      let none = Offset no_corner nan nan in
      let taken : length (take n stands) ≡ n = length-take-le n stands (omega arith) in
      ext_get_or none (take n stands) (stands_of ns) (taken ∙ sym (length_of_stands ns)) (λ i l.
      let m : i < n = rw taken at l in
      get_or-take n stands i none m
      ∙ made i none (omega arith) (omega arith) (omega arith)
      ∙ subst (λ (t : List (List Float)). stand_in t i ≡ get_or (stands_of ns) i none) (sym is) (sym (stand_in_its_place ns n i none (omega arith) m)))

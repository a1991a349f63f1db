-- The route up to and including the door: what it is for two routes to be the same so far (document 01, "Changing a door").
use mathlib.Core.Bool.{Bool, true, false, ◌||◌, true≢false}
use mathlib.Core.List.{List, [], ◌∷◌, nil≢cons, head-eq_of_cons-eq, tail-eq_of_cons-eq}
use mathlib.Core.Path.{◌≡◌, refl, sym, ◌∙◌, ap, subst}
use Prim.Native.Nat.{ℕ}
use borrow.Author.Tests.{eqb-true, eq-eqb}
use lib.Dec.{eqb}
use Rattle.exact.proofs.Truth.{both_true}
use Rattle.runs.specs.Door.{is_door, crosses, side_seen, before, same_to_door}
use Rattle.runs.proofs.Doors.{crosses_at_once, seen_at_once, nothing_before, crosses_later, seen_later, one_more_before}

module _ (f₀ g₀ : ℕ) where
  -- the side seen is one of the door's faces
  pub side_seen_is_the_door : (p : List ℕ) → crosses f₀ g₀ p ≡ true → is_door f₀ g₀ (side_seen f₀ g₀ p) ≡ true
  unfolding crosses
  side_seen_is_the_door [] c = absurd (true≢false (sym c))
  side_seen_is_the_door (f ∷ p) c = by_door (side_seen_is_the_door p) (is_door f₀ g₀ f) refl
    where
      by_door : (crosses f₀ g₀ p ≡ true → is_door f₀ g₀ (side_seen f₀ g₀ p) ≡ true) → (b : Bool) → is_door f₀ g₀ f ≡ b
          → is_door f₀ g₀ (side_seen f₀ g₀ (f ∷ p)) ≡ true
      by_door ih true e = rw (seen_at_once f₀ g₀ f e p) e
      by_door ih false e = rw (seen_later f₀ g₀ f e p) (ih (sym (crosses_later f₀ g₀ f e p) ∙ c))

  -- two routes that cross the door, the same before it, and by the same side
  pub record SameToDoor (p q : List ℕ) : Type 0 where
    pub first_crosses : crosses f₀ g₀ p ≡ true
    pub second_crosses : crosses f₀ g₀ q ≡ true
    pub same_before : before f₀ g₀ p ≡ before f₀ g₀ q
    pub same_side : side_seen f₀ g₀ p ≡ side_seen f₀ g₀ q

  pub same_to_door_says : (p q : List ℕ) → same_to_door f₀ g₀ p q ≡ true → SameToDoor p q
  unfolding same_to_door
  same_to_door_says [] q h = absurd (true≢false (sym h))
  same_to_door_says (f ∷ p) [] h = absurd (true≢false (sym h))
  same_to_door_says (f ∷ p) (g ∷ q) h = subst (λ (c : ℕ). SameToDoor (f ∷ p) (c ∷ q)) same (by_door (same_to_door_says p q) (is_door f₀ g₀ f) refl)
    where
      same : f ≡ g
      same = eqb-true _ _ (both_true (eqb f g) (is_door f₀ g₀ f || same_to_door f₀ g₀ p q) h).0

      further : (is_door f₀ g₀ f || same_to_door f₀ g₀ p q) ≡ true
      further = (both_true (eqb f g) _ h).1

      by_door : (same_to_door f₀ g₀ p q ≡ true → SameToDoor p q) → (b : Bool) → is_door f₀ g₀ f ≡ b → SameToDoor (f ∷ p) (f ∷ q)
      by_door ih true e =
          record {
            first_crosses = crosses_at_once f₀ g₀ f e p;
            second_crosses = crosses_at_once f₀ g₀ f e q;
            same_before = nothing_before f₀ g₀ f e p ∙ sym (nothing_before f₀ g₀ f e q);
            same_side = seen_at_once f₀ g₀ f e p ∙ sym (seen_at_once f₀ g₀ f e q);
          }
      by_door ih false e =
          let s = ih (rw e at further) in
          record {
            first_crosses = crosses_later f₀ g₀ f e p ∙ s.first_crosses;
            second_crosses = crosses_later f₀ g₀ f e q ∙ s.second_crosses;
            same_before = one_more_before f₀ g₀ f e p ∙ ap (λ (c : List ℕ). f ∷ c) s.same_before ∙ sym (one_more_before f₀ g₀ f e q);
            same_side = seen_later f₀ g₀ f e p ∙ s.same_side ∙ sym (seen_later f₀ g₀ f e q);
          }

  pub same_to_door_is : (p q : List ℕ) → SameToDoor p q → same_to_door f₀ g₀ p q ≡ true
  unfolding crosses same_to_door
  same_to_door_is [] q s = absurd (true≢false (sym s.first_crosses))
  same_to_door_is (f ∷ p) [] s = absurd (true≢false (sym s.second_crosses))
  same_to_door_is (f ∷ p) (g ∷ q) s = by_doors (same_to_door_is p q) (is_door f₀ g₀ f) refl (is_door f₀ g₀ g) refl
    where
      from_here : (f ≡ g) → (is_door f₀ g₀ f || same_to_door f₀ g₀ p q) ≡ true → same_to_door f₀ g₀ (f ∷ p) (g ∷ q) ≡ true
      from_here same t = rw (eq-eqb f g same, t)

      by_doors : (SameToDoor p q → same_to_door f₀ g₀ p q ≡ true) → (b : Bool) → is_door f₀ g₀ f ≡ b → (c : Bool) → is_door f₀ g₀ g ≡ c
          → same_to_door f₀ g₀ (f ∷ p) (g ∷ q) ≡ true
      by_doors ih true d true e = from_here (sym (seen_at_once f₀ g₀ f d p) ∙ s.same_side ∙ seen_at_once f₀ g₀ g e q) (rw d)
      by_doors ih true d false e = absurd (nil≢cons (sym (nothing_before f₀ g₀ f d p) ∙ s.same_before ∙ one_more_before f₀ g₀ g e q))
      by_doors ih false d true e = absurd (nil≢cons (sym (nothing_before f₀ g₀ g e q) ∙ sym s.same_before ∙ one_more_before f₀ g₀ f d p))
      by_doors ih false d false e =
          let same = sym (one_more_before f₀ g₀ f d p) ∙ s.same_before ∙ one_more_before f₀ g₀ g e q in
          from_here (head-eq_of_cons-eq same)
          (rw d (ih (record {
            first_crosses = sym (crosses_later f₀ g₀ f d p) ∙ s.first_crosses;
            second_crosses = sym (crosses_later f₀ g₀ g e q) ∙ s.second_crosses;
            same_before = tail-eq_of_cons-eq same;
            same_side = sym (seen_later f₀ g₀ f d p) ∙ s.same_side ∙ seen_later f₀ g₀ g e q;
          })))

  pub same_to_door_is_transitive : (p q s : List ℕ) → same_to_door f₀ g₀ p q ≡ true → same_to_door f₀ g₀ q s ≡ true → same_to_door f₀ g₀ p s ≡ true
  same_to_door_is_transitive p q s h k =
      let a = same_to_door_says p q h in
      let b = same_to_door_says q s k in
      same_to_door_is p s
      (record {
        first_crosses = a.first_crosses;
        second_crosses = b.second_crosses;
        same_before = a.same_before ∙ b.same_before;
        same_side = a.same_side ∙ b.same_side;
      })

-- All that is seen through lines, over any floor: limits are handed on without a gap, and lines that share limits differ.
use mathlib.Core.Bool.{Bool, true, false}
use mathlib.Core.List.{List, [], ◌∷◌, ◌++◌, map}
use mathlib.Core.Path.{◌≡◌, refl, sym, ap, subst}
use Prim.Native.Nat.{ℕ, zero, suc, ◌≤◌, ◌<◌}
use native.Mathlib.Omega.{arith}
use lib.ListN.{length}
use Rattle.fan.specs.Sight.{Floor, Place, Sight, fan, follow, hand_on, lines_seen, Whole}
use Rattle.fan.specs.Sight.Place.{between, right_of_r, left_of_l}
use Rattle.fan.specs.Sight.Sight.{row, pass, both, cut}
use Rattle.fan.specs.Sight.Whole.{whole_pass, whole_both}
use Rattle.fan.specs.Walk.{Among}
use Rattle.fan.specs.Walk.Among.{this, after}
use Rattle.fan.specs.Once.{At}
use Rattle.fan.specs.Once.At.{first, later}
use Rattle.fan.proofs.Geometry.{among_more}
use Rattle.fan.proofs.Places.{at_the_only_place, either_list, first_joined, second_joined}
use Rattle.fan.proofs.Trees.{follow_a_wall, follow_too_far, follow_across, fan_last, fan_both, fan_skips, fan_ends}
use Rattle.runs.specs.Route.{Routed, via, routed, way}
use Rattle.runs.specs.Shutting.{last}
use Rattle.runs.specs.Floors.{ending, Faces}
use Rattle.runs.proofs.Lists.{at_mapped, first_or_after}

-- no face is in both lists
abbrev pub NoneInBoth : List ℕ → List ℕ → Type 0
NoneInBoth fs gs = (e i j : ℕ) → At e fs i → At e gs j → ⊥

-- t is all that is seen through the lines of the faces of a list, one after the other, from the limit r to the limit l, where sight ends as told
pub data Through (ends : ℕ → Bool) : List ℕ → ℕ → ℕ → Sight → Type 0 where
  wall : {f r l k : ℕ} → ends f ≡ true → Through ends (f ∷ []) r l (row f r l k)
  -- beyond a free line, lines take its limits
  crossed : {f r l : ℕ} {fs : List ℕ} {t : Sight} → ends f ≡ false → Through ends fs r l t → Through ends (f ∷ []) r l (pass f r l t)
  -- lines, and other lines after them, share the limits at a corner
  shared : {r v l : ℕ} {fs gs : List ℕ} {t u : Sight} → NoneInBoth fs gs → Through ends fs r v t → Through ends gs v l u
      → Through ends (fs ++ gs) r l (both t u)

-- ---- the expansion is such a tree

-- t is seen through some of side e and the m sides after it, from r to l
pub record ThroughSides (F : Floor) (m e r l : ℕ) (t : Sight) : Type 0 where
  pub lines : List ℕ
  pub are_sides : (x i : ℕ) → At x lines i → Among F m e x
  pub through : Through F.ends lines r l t

-- lines one behind the other from the limit r to the limit l: each starts where the one before it ends
pub data Linked (F : Floor) : List ℕ → ℕ → ℕ → Type 0 where
  alone : {e : ℕ} → Linked F (e ∷ []) (F.right_end e) (F.left_end e)
  in_front : {e l : ℕ} {es : List ℕ} → Linked F es (F.left_end e) l → Linked F (e ∷ es) (F.right_end e) l

pub linked_joined : {F : Floor} {xs ys : List ℕ} {r v l : ℕ} → Linked F xs r v → Linked F ys v l → Linked F (xs ++ ys) r l
linked_joined alone q = in_front q
linked_joined (in_front p) q = in_front (linked_joined p q)

-- there is one
pub some_line : {F : Floor} {es : List ℕ} {r l : ℕ} → Linked F es r l → 0 < length es
some_line alone = omega arith
some_line (in_front p) = omega arith

-- where sight ends has no part in it
pub linked_alike : {F : Floor} {ends : ℕ → Bool} {far : ℕ → ℕ} {es : List ℕ} {r l : ℕ} → Linked F es r l → Linked (ending F ends far) es r l
linked_alike alone = alone
linked_alike (in_front p) = in_front (linked_alike p)

-- the lines around a stand: faces, one behind the other, none of them twice, and nothing is cut of what is seen through them
pub record Lines (N : ℕ) (F : Floor) (n : ℕ) (es : List ℕ) : Type 0 where
  pub are_faces : (e i : ℕ) → At e es i → e < N
  pub right : ℕ
  pub left : ℕ
  pub linked : Linked F es right left
  pub once : (e i j : ℕ) → At e es i → At e es j → i ≡ j
  pub whole : Whole (lines_seen F n es)

module _ {F : Floor} {e r l : ℕ} {t : Sight} where
  -- through the first side alone
  through_the_first : {m : ℕ} → Through F.ends (e ∷ []) r l t → ThroughSides F m e r l t
  through_the_first {m} p =
      record { lines = e ∷ []; are_sides = λ x i q. subst (λ (y : ℕ). Among F m e y) (sym (at_the_only_place q)) this; through = p }

  -- through sides after the first
  through_the_rest : {m : ℕ} → ThroughSides F m (F.next e) r l t → ThroughSides F (suc m) e r l t
  through_the_rest p = record { lines = p.lines; are_sides = λ x i q. after (p.are_sides x i q); through = p.through }

module _ {N : ℕ} {F : Floor} (A : Faces N F) where
  -- a side of a cell and the m sides after it, none of them twice
  record Round (m e : ℕ) : Type 0 where
    is_a_face : e < N
    once_at_most : m ≤ suc (F.more e)

  -- the sides after the first
  one_further : {m e : ℕ} → Round (suc m) e → Round m (F.next e)
  one_further {m} {e} o =
      record { is_a_face = A.next_is_a_face e o.is_a_face; once_at_most = rw (A.as_many_sides e o.is_a_face) (omega (arith, o.once_at_most)) }

  not_after_itself : {m e x : ℕ} → Round (suc m) e → x ≡ e → Among F m (F.next e) x → ⊥
  not_after_itself {m} {e} o same a =
      A.never_itself e o.is_a_face (among_more (omega (arith, o.once_at_most)) (subst (λ (y : ℕ). Among F m (F.next e) y) same a))

  -- through the first side, and through sides after it
  through_first_and_rest : {m e r v l : ℕ} {t u : Sight} → Round (suc m) e → Through F.ends (e ∷ []) r v t → ThroughSides F m (F.next e) v l u
      → ThroughSides F (suc m) e r l (both t u)
  through_first_and_rest {m} {e} o p q =
      record {
        lines = e ∷ q.lines;
        are_sides = λ x i s. first_or_after s (λ same. subst (λ (y : ℕ). Among F (suc m) e y) (sym same) this) (λ k s. after (q.are_sides x k s));
        through = shared (λ x i j s s'. not_after_itself o (at_the_only_place s) (q.are_sides x j s')) p q.through;
      }

  -- each line goes through itself
  abbrev LinesGo : (ℕ → ℕ → ℕ → Sight) → Type 0
  LinesGo on = (f r l : ℕ) → f < N → Whole (on f r l) → Through F.ends (f ∷ []) r l (on f r l)

  fan_goes_through : {on : ℕ → ℕ → ℕ → Sight} → LinesGo on → (m e r l : ℕ) → Round m e → Whole (fan F on m e r l) → ThroughSides F m e r l (fan F on m e r l)
  fan_goes_through {on} lines zero e r l o w =
      rw (fan_last F on e r l) (through_the_first (lines e r l o.is_a_face (rw (fan_last F on e r l) at w)))
  fan_goes_through {on} lines (suc m) e r l o w =
      by_place (λ v. fan_goes_through lines m (F.next e) v l (one_further o)) (F.place (F.left_end e) r l) refl
    where
      Rest : Type 0
      Rest = (v : ℕ) → Whole (fan F on m (F.next e) v l) → ThroughSides F m (F.next e) v l (fan F on m (F.next e) v l)

      two : Rest → (v : ℕ) → Whole (both (on e r v) (fan F on m (F.next e) v l)) → ThroughSides F (suc m) e r l (both (on e r v) (fan F on m (F.next e) v l))
      two rest v (whole_both w₁ w₂) = through_first_and_rest o (lines e r v o.is_a_face w₁) (rest v w₂)

      by_place : Rest → (p : Place) → F.place (F.left_end e) r l ≡ p → ThroughSides F (suc m) e r l (fan F on (suc m) e r l)
      by_place rest between p = rw (fan_both F on m e r l p) (two rest (F.left_end e) (rw (fan_both F on m e r l p) at w))
      by_place rest right_of_r p = rw (fan_skips F on m e r l p) (through_the_rest (rest r (rw (fan_skips F on m e r l p) at w)))
      by_place rest left_of_l p = rw (fan_ends F on m e r l p) (through_the_first (lines e r l o.is_a_face (rw (fan_ends F on m e r l p) at w)))

  -- the sides that a cell hands on where it is entered through its face g
  sides_beyond : (g : ℕ) → g < N → Round (F.more g) (F.next g)
  sides_beyond g h = record { is_a_face = A.next_is_a_face g h; once_at_most = rw (A.as_many_sides g h) (omega arith) }

  pub follow_goes_through : (n f r l : ℕ) → f < N → Whole (follow F n f r l) → Through F.ends (f ∷ []) r l (follow F n f r l)
  unfolding hand_on
  follow_goes_through zero f r l h w = by_end (F.ends f) refl
    where
      by_end : (b : Bool) → F.ends f ≡ b → Through F.ends (f ∷ []) r l (follow F zero f r l)
      by_end true e = rw (follow_a_wall F zero f r l e) (wall e)
      by_end false e = let none : Whole cut = rw (follow_too_far F f r l e) at w in elim none [ ]
  follow_goes_through (suc n) f r l h w = by_end (follow_goes_through n) (F.ends f) refl
    where
      beyond : LinesGo (follow F n) → F.ends f ≡ false → Whole (pass f r l (hand_on F n (F.back f) r l))
          → Through F.ends (f ∷ []) r l (pass f r l (hand_on F n (F.back f) r l))
      beyond below e (whole_pass v) =
          crossed e (fan_goes_through below (F.more (F.back f)) (F.next (F.back f)) r l (sides_beyond (F.back f) (A.back_is_a_face f h e)) v).through

      by_end : LinesGo (follow F n) → (b : Bool) → F.ends f ≡ b → Through F.ends (f ∷ []) r l (follow F (suc n) f r l)
      by_end below true e = rw (follow_a_wall F (suc n) f r l e) (wall e)
      by_end below false e = rw (follow_across F n f r l e) (beyond below e (rw (follow_across F n f r l e) at w))

  lines_go_through :
      (n : ℕ) (es : List ℕ) {r l : ℕ} → ((e i : ℕ) → At e es i → e < N) → ((e i j : ℕ) → At e es i → At e es j → i ≡ j) → Linked F es r l →
      Whole (lines_seen F n es) → Through F.ends es r l (lines_seen F n es)
  unfolding lines_seen
  lines_go_through n [] faces once p w = elim p [ ]
  lines_go_through n (e ∷ []) faces once alone w = follow_goes_through n e _ _ (faces e 0 first) w
  lines_go_through n (e ∷ []) faces once (in_front p) w = elim p [ ]
  lines_go_through n (e ∷ x ∷ es) faces once (in_front p) (whole_both w₁ w₂) =
      shared apart (follow_goes_through n e _ _ (faces e 0 first) w₁)
      (lines_go_through n (x ∷ es) (λ y i q. faces y (suc i) (later q)) (λ y i j q q'. omega (arith, once y (suc i) (suc j) (later q) (later q'))) p w₂)
    where
      apart : NoneInBoth (e ∷ []) (x ∷ es)
      apart y i j q q' = let here = subst (λ (z : ℕ). At z (e ∷ x ∷ es) 0) (sym (at_the_only_place q)) first in omega (arith, once y 0 (suc j) here (later q'))

  -- what is seen from the stand goes through the lines around it
  pub listing_goes_through : {n : ℕ} {es : List ℕ} (L : Lines N F n es) → Through F.ends es L.right L.left (lines_seen F n es)
  listing_goes_through {n} {es} L = lines_go_through n es L.are_faces L.once L.linked L.whole

-- ---- its limits

-- the rows fill the limits r and l without a gap: each row's right limit is the left limit of the row before it
pub data Fill : ℕ → ℕ → List Routed → Type 0 where
  one : (x : Routed) → Fill x.row.right x.row.left (x ∷ [])
  more : {l : ℕ} {xs : List Routed} (x : Routed) → Fill x.row.left l xs → Fill x.row.right l (x ∷ xs)

fill_both : {r v l : ℕ} {xs ys : List Routed} → Fill r v xs → Fill v l ys → Fill r l (xs ++ ys)
fill_both (one x) q = more x q
fill_both (more x p) q = more x (fill_both p q)

fill_further_on : {r l : ℕ} {xs : List Routed} (f : ℕ) → Fill r l xs → Fill r l (map (via f) xs)
fill_further_on f (one x) = one (via f x)
fill_further_on f (more x p) = more (via f x) (fill_further_on f p)

module _ {ends : ℕ → Bool} where
  pub rows_fill_the_limits : {fs : List ℕ} {r l : ℕ} {t : Sight} → Through ends fs r l t → Fill r l (routed t)
  unfolding routed
  rows_fill_the_limits (wall {f = f} {r = r} {l = l} {k = k} e) = one (record { row = record { face = f; right = r; left = l; far = k }; route = [] })
  rows_fill_the_limits (crossed {f = f} e t₁) = fill_further_on f (rows_fill_the_limits t₁)
  rows_fill_the_limits (shared d t₁ t₂) = fill_both (rows_fill_the_limits t₁) (rows_fill_the_limits t₂)

-- there is a first row, with the right limit, and a last one, with the left limit
pub record Ends (r l : ℕ) (xs : List Routed) : Type 0 where
  pub first_row : Routed
  pub others : List Routed
  pub all : xs ≡ first_row ∷ others
  pub first_right_limit : first_row.row.right ≡ r
  pub last_left_limit : (last first_row others).row.left ≡ l

pub ends_of_a_filling : {r l : ℕ} {xs : List Routed} → Fill r l xs → Ends r l xs
unfolding last
ends_of_a_filling (one x) = record { first_row = x; others = []; all = refl; first_right_limit = refl; last_left_limit = refl }
ends_of_a_filling (more {xs = xs} x p) =
    let e = ends_of_a_filling p in
    record { first_row = x; others = xs; all = refl; first_right_limit = refl; last_left_limit = rw e.all e.last_left_limit }

-- the run through a line with limits r and l: its first row's right limit is r, its last row's left limit is l
pub limits_of_a_run : {N : ℕ} {F : Floor} → Faces N F → (n f r l : ℕ) → f < N → Whole (follow F n f r l) → Ends r l (routed (follow F n f r l))
limits_of_a_run A n f r l h w = ends_of_a_filling (rows_fill_the_limits (follow_goes_through A n f r l h w))

-- ---- its routes

-- a way begins with one of the faces of a list
pub record Begins (fs p : List ℕ) : Type 0 where
  pub face : ℕ
  pub place : ℕ
  pub stands : At face fs place
  pub rest : List ℕ
  pub is : p ≡ face ∷ rest

-- ways through different lines begin differently
pub begin_differently : {fs gs p q : List ℕ} → NoneInBoth fs gs → (b : Begins fs p) (c : Begins gs q) → b.face ≡ c.face → ⊥
begin_differently {gs = gs} none b c same =
    none b.face b.place c.place b.stands (subst (λ (e : ℕ). At e gs c.place) (sym same) c.stands)

module _ {ends : ℕ → Bool} where
  -- every way through lines begins with one of their faces
  pub way_begins_with_the_face : {fs : List ℕ} {r l i : ℕ} {t : Sight} {x : Routed} → Through ends fs r l t → At x (routed t) i → Begins fs (way x)
  unfolding routed way
  way_begins_with_the_face (wall {f = f} e) p = record { face = f; place = zero; stands = first; rest = []; is = ap way (at_the_only_place p) }
  way_begins_with_the_face (crossed {f = f} {t = t} e t₁) p =
      let (y, q, same) = at_mapped (routed t) p in
      record { face = f; place = zero; stands = first; rest = way y; is = ap way same }
  way_begins_with_the_face (shared {fs = fs} {gs = gs} {t = t} d t₁ t₂) p =
      either_list (routed t) p (λ k q. in_the_first (way_begins_with_the_face t₁ q)) (λ k q. in_the_second (way_begins_with_the_face t₂ q))
    where
      in_the_first : {p : List ℕ} → Begins fs p → Begins (fs ++ gs) p
      in_the_first b = record { face = b.face; place = b.place; stands = first_joined gs b.stands; rest = b.rest; is = b.is }

      in_the_second : {p : List ℕ} → Begins gs p → Begins (fs ++ gs) p
      in_the_second b = record { face = b.face; place = _; stands = second_joined fs b.stands; rest = b.rest; is = b.is }

  -- every row stands where sight ends
  pub rows_stand_where_sight_ends : {fs : List ℕ} {r l i : ℕ} {t : Sight} {x : Routed} → Through ends fs r l t → At x (routed t) i → ends x.row.face ≡ true
  unfolding routed
  rows_stand_where_sight_ends (wall e) p = rw (at_the_only_place p) e
  rows_stand_where_sight_ends (crossed {t = t} e t₁) p =
      let (y, q, same) = at_mapped (routed t) p in
      rw same (rows_stand_where_sight_ends t₁ q)
  rows_stand_where_sight_ends (shared {t = t} d t₁ t₂) p =
      either_list (routed t) p (λ k q. rows_stand_where_sight_ends t₁ q) (λ k q. rows_stand_where_sight_ends t₂ q)

-- Over a floor in the plane, for a seen line, the fan hands on just the parts that the plain definition lists, in their order: the moving right limit and the
-- early stop change nothing.
use mathlib.Core.Bool.{false}
use mathlib.Core.List.{List, [], ◌∷◌, ◌++◌}
use mathlib.Core.Logic.{◌⊎◌, inl, inr}
use mathlib.Core.Path.{◌≡◌, refl, sym, ◌∙◌, ap}
use Prim.Native.Nat.{ℕ, zero, suc, ◌<◌}
use native.Mathlib.Decide.{ℕ_discrete}
use native.Mathlib.Omega.{arith}
use lib.IntN.{◌+ℤ◌}
use lib.Signed.{◌<ℤ◌, ◌≤ℤ◌}
use Rattle.exact.proofs.Order.{𝟘, lt_ltZ, le_ltZ, less_is_at_most}
use Rattle.plane.specs.Side.{Point}
use Rattle.plane.specs.Cone.{cross, Between, Beyond, Cone}
use Rattle.plane.proofs.Found.{between_keeps_the_right_cone, between_keeps_the_left_cone, right_keeps_the_cone, left_keeps_the_cone, a_seen_line_is_a_cone, beyond_is_transitive_around_an_end, start_of_a_line_is_on_it, later_corner_is_left_of_a_left_ray, later_corner_is_left_of_a_right_ray, left_turned_is_not_left}
use Rattle.fan.specs.Sight.{Floor, Place, Sight, fan, follow, hand_on}
use Rattle.fan.specs.Sight.Place.{between, right_of_r, left_of_l}
use Rattle.fan.specs.Sight.Sight.{both}
use Rattle.fan.specs.Walk.{Among}
use Rattle.fan.specs.Walk.Among.{this, after}
use Rattle.fan.specs.Plain.{Line, more_left, more_right, line_between, part, parts, joined}
use Rattle.fan.proofs.Geometry.{Geometry, InSight, around, among_more, among_is_a_face, among_in_the_cell, other_is_another, convex_at_the_left}
use Rattle.fan.proofs.HandOn.{UpTo, Open, all_others, one_side_on, not_yet_g, last_is_seen, corner_is_beyond, open_from_next, entered_is_open}
use Rattle.fan.proofs.Trees.{hand_on_is_a_fan, fan_last, fan_both, fan_skips, fan_ends}

-- ---- the plain definition by cases

module _ (see : ℕ → Point) where
  moves_left : (r a : ℕ) → 𝟘 <ℤ cross (see r) (see a) → more_left see r a ≡ a
  unfolding more_left
  moves_left r a h = rw (lt_ltZ h, more_left)

  stays_right : (r a : ℕ) → cross (see r) (see a) ≤ℤ 𝟘 → more_left see r a ≡ r
  unfolding more_left
  stays_right r a h = rw (le_ltZ h, more_left)

  moves_right : (l b : ℕ) → 𝟘 <ℤ cross (see b) (see l) → more_right see l b ≡ b
  unfolding more_right
  moves_right l b h = rw (lt_ltZ h, more_right)

  stays_left : (l b : ℕ) → cross (see b) (see l) ≤ℤ 𝟘 → more_right see l b ≡ l
  unfolding more_right
  stays_left l b h = rw (le_ltZ h, more_right)

  module _ (F : Floor) where
    some_line : (e r l : ℕ) → 𝟘 <ℤ cross (see r) (see l) → line_between see F e r l ≡ record { face = e; right = r; left = l } ∷ []
    unfolding line_between
    some_line e r l h = rw (lt_ltZ h, line_between)

    no_line : (e r l : ℕ) → cross (see r) (see l) ≤ℤ 𝟘 → line_between see F e r l ≡ []
    unfolding line_between
    no_line e r l h = rw (le_ltZ h, line_between)

    -- a part by its two limits
    part_is : (e r l r' l' : ℕ) → more_left see r (F.right_end e) ≡ r' → more_right see l (F.left_end e) ≡ l' → part see F e r l ≡ line_between see F e r' l'
    unfolding part
    part_is e r l r' l' p q = rw (p, q)

    same_part : (e r r' l : ℕ) → more_left see r (F.right_end e) ≡ more_left see r' (F.right_end e) → part see F e r l ≡ part see F e r' l
    unfolding part
    same_part e r r' l p = rw p

    -- parts that are the same for two right limits
    same_parts : (m e r r' l : ℕ) → ((x : ℕ) → Among F m e x → part see F x r l ≡ part see F x r' l) → parts see F m e r l ≡ parts see F m e r' l
    unfolding parts
    same_parts zero e r r' l each = each e this
    same_parts (suc m) e r r' l each = rw (each e this, same_parts m (F.next e) r r' l (λ x i. each x (after i)))

    no_parts : (m e r l : ℕ) → ((x : ℕ) → Among F m e x → part see F x r l ≡ []) → parts see F m e r l ≡ []
    unfolding parts
    no_parts zero e r l each = each e this
    no_parts (suc m) e r l each = rw (each e this, no_parts m (F.next e) r l (λ x i. each x (after i)))

-- ---- lines one behind the other

-- the tree t is the lines of a list, one behind the other
data Lists (on : ℕ → ℕ → ℕ → Sight) : Sight → List Line → Type 0 where
  the_last : {e r l : ℕ} → Lists on (on e r l) (record { face = e; right = r; left = l } ∷ [])
  and_then : {e r l : ℕ} {t : Sight} {ps : List Line} → Lists on t ps → Lists on (both (on e r l) t) (record { face = e; right = r; left = l } ∷ ps)

lists_joined : {on : ℕ → ℕ → ℕ → Sight} {t : Sight} {ps : List Line} → Lists on t ps → t ≡ joined on ps
unfolding joined
lists_joined the_last = refl
lists_joined (and_then the_last) = refl
lists_joined {on} (and_then {e = e} {r = r} {l = l} (and_then h)) = ap (both (on e r l)) (lists_joined (and_then h))

module _ {F : Floor} {N M : ℕ} {see : ℕ → Point} {cell : ℕ → ℕ} (G : Geometry F N M see cell) {g : ℕ} (h : g < N) where
  -- ---- the corners in their order

  -- the corner c is on the line of g or beyond it
  abbrev OnOrBeyond : ℕ → Type 0
  OnOrBeyond c = 𝟘 ≤ℤ (cross (see (F.right_end g)) (see (F.left_end g)) +ℤ cross (see (F.left_end g)) (see c) +ℤ cross (see c) (see (F.right_end g)))

  -- around g's right end, the corner c comes after the corner u
  abbrev Turned : ℕ → ℕ → Type 0
  Turned u c = Beyond (see u) (see (F.right_end g)) (see c)

  starts_on_or_beyond : {m e : ℕ} → UpTo G g m e → OnOrBeyond (F.right_end e)
  starts_on_or_beyond {e = e} u = by_test (ℕ_discrete e (F.next g))
    where
      by_test : Dec (e ≡ F.next g) → OnOrBeyond (F.right_end e)
      by_test (yes p) = rw (ap F.right_end p ∙ G.next_starts g h) (start_of_a_line_is_on_it _ _)
      by_test (no n) = less_is_at_most (G.convex g e h u.is_a_face (sym u.in_the_cell) (not_yet_g G h u this) n).beyond

  next_corner_turns : {m e : ℕ} → UpTo G g (suc m) e → Turned (F.right_end e) (F.right_end (F.next e))
  next_corner_turns {e = e} u = rw (G.next_starts e u.is_a_face) (corner_is_beyond G h u)

  next_corner_is_beyond : {m e : ℕ} → UpTo G g (suc m) e → Beyond (see (F.left_end g)) (see (F.right_end g)) (see (F.right_end (F.next e)))
  next_corner_is_beyond {e = e} u =
      rw (G.next_starts e u.is_a_face) (convex_at_the_left G g e h u.is_a_face (sym u.in_the_cell) (not_yet_g G h u this) (not_yet_g G h u (after this)))

  later_corners_turn : {m e x : ℕ} (c : ℕ) → OnOrBeyond c → UpTo G g m e → Turned c (F.right_end e) → Among F m e x → Turned c (F.right_end x)
  later_corners_turn c o u t this = t
  later_corners_turn c o u t (after i) =
      later_corners_turn c o (one_side_on G u)
      (beyond_is_transitive_around_an_end _ _ _ _ _ o (starts_on_or_beyond u) (next_corner_is_beyond u) t (next_corner_turns u)) i

  -- the right end of e, its left end v, a later corner p and g's right end turn left, each with the next two
  record InOrder (e p : ℕ) : Type 0 where
    pub e_then_p : Beyond (see (F.right_end (F.next e))) (see (F.right_end e)) (see p)
    pub v_then_p : Turned (F.right_end (F.next e)) p
    pub right_end_then_p : Turned (F.right_end e) p
    pub right_end_then_v : Turned (F.right_end e) (F.right_end (F.next e))

  later_corner : {m e x : ℕ} → UpTo G g (suc (suc m)) e → Among F m (F.next (F.next e)) x → InOrder e (F.right_end x)
  later_corner {m} {e} {x} u i =
      record {
        e_then_p = rw (G.next_starts e first) (G.convex e x first (among_is_a_face G first past) (sym (among_in_the_cell G first past)) not_e not_next);
        v_then_p = later_corners_turn _ (starts_on_or_beyond (one_side_on G u)) (one_side_on G (one_side_on G u)) (next_corner_turns (one_side_on G u)) i;
        right_end_then_p = later_corners_turn _ (starts_on_or_beyond u) (one_side_on G u) (next_corner_turns u) (after i);
        right_end_then_v = next_corner_turns u;
      }
    where
      first : e < N
      first = u.is_a_face

      past : Among F (suc (suc m)) e x
      past = after (after i)

      not_e : x ≡ e → ⊥
      not_e = other_is_another G u.is_a_face (among_more {m = suc m} (omega (arith, u.not_round)) (after i))

      not_next : x ≡ F.next e → ⊥
      not_next = other_is_another G (one_side_on G u).is_a_face (among_more {m = m} (omega (arith, (one_side_on G u).not_round)) i)

  -- a ray with e's right end on its right, and with e's left end and g's right end not on its right, has p on its left
  left_of_a_ray :
      {e p : ℕ} (t : Point) → InOrder e p → 𝟘 <ℤ cross (see (F.right_end e)) t → 𝟘 ≤ℤ cross t (see (F.right_end (F.next e))) →
      𝟘 ≤ℤ cross t (see (F.right_end g)) → 𝟘 <ℤ cross t (see p)
  left_of_a_ray t o = later_corner_is_left_of_a_left_ray _ _ _ _ _ o.e_then_p o.v_then_p o.right_end_then_p o.right_end_then_v

  left_of_the_right_limit : {e p r l : ℕ} → InOrder e p → Open G g e r l → 𝟘 <ℤ cross (see r) (see (F.right_end (F.next e))) → 𝟘 <ℤ cross (see r) (see p)
  left_of_the_right_limit o c v =
      later_corner_is_left_of_a_right_ray _ _ _ _ _ o.e_then_p o.v_then_p o.right_end_then_p o.right_end_then_v c.right_from_a v c.right_to_b

  -- ---- the fan and the parts

  -- where the fan is at e, e takes the fan's right limit
  right_limit_stays : {e r l : ℕ} → Open G g e r l → more_left see r (F.right_end e) ≡ r
  right_limit_stays c = stays_right see _ _ (left_turned_is_not_left _ _ c.right_from_a)

  -- the last side takes what is left
  last_part_is : {e r l : ℕ} → UpTo G g zero e → Open G g e r l → part see F e r l ≡ record { face = e; right = r; left = l } ∷ []
  last_part_is {e} {r} {l} u c =
      part_is see F e r l r l (right_limit_stays c) (stays_left see _ _ (left_turned_is_not_left _ _ (last_is_seen G u c).left_to_b))
      ∙ some_line see F e r l c.right_to_left

  module _ {m e r l : ℕ} (u : UpTo G g (suc m) e) (c : Open G g e r l) where
    part_to_a_split : Between (see r) (see l) (see (F.left_end e)) → part see F e r l ≡ record { face = e; right = r; left = F.left_end e } ∷ []
    part_to_a_split b =
        part_is see F e r l r (F.left_end e) (right_limit_stays c) (moves_right see _ _ b.short_of_left)
        ∙ some_line see F e r (F.left_end e) b.past_right

    part_that_is_skipped : cross (see r) (see (F.left_end e)) ≤ℤ 𝟘 → part see F e r l ≡ []
    part_that_is_skipped k =
        part_is see F e r l r (F.left_end e) (right_limit_stays c)
        (moves_right see _ _ (right_keeps_the_cone _ _ _ _ _ c (corner_is_beyond G h u) k).left_from_a)
        ∙ no_line see F e r (F.left_end e) k

    part_that_ends : cross (see (F.left_end e)) (see l) ≤ℤ 𝟘 → part see F e r l ≡ record { face = e; right = r; left = l } ∷ []
    part_that_ends k = part_is see F e r l r l (right_limit_stays c) (stays_left see _ _ k) ∙ some_line see F e r l c.right_to_left

  -- past a split at e's left end, the later sides find the same right limits from r as from there
  same_limit :
      {m e x r l : ℕ} → UpTo G g (suc m) e → Open G g e r l → Between (see r) (see l) (see (F.left_end e)) → Among F m (F.next e) x →
      more_left see r (F.right_end x) ≡ more_left see (F.left_end e) (F.right_end x)
  same_limit {e = e} {r = r} u c b this =
      let itself = left_turned_is_not_left _ _ (a_seen_line_is_a_cone _ _ b.past_right).left_to_b in
      rw (G.next_starts e u.is_a_face)
      (moves_left see r (F.left_end e) b.past_right ∙ sym (stays_right see (F.left_end e) (F.left_end e) itself))
  same_limit {e = e} {x = x} {r = r} u c b (after i) =
      let o = later_corner u i in
      let start = G.next_starts e u.is_a_face in
      let rest = between_keeps_the_left_cone _ _ _ _ _ c b in
      let past_r = left_of_the_right_limit o c (rw start b.past_right) in
      let e_is_seen = (between_keeps_the_right_cone _ _ _ _ _ c b).seen in
      let past_v = left_of_a_ray (see (F.left_end e)) o e_is_seen (rw start rest.right_from_a) (less_is_at_most rest.seen) in
      moves_left see r (F.right_end x) past_r ∙ sym (moves_left see (F.left_end e) (F.right_end x) past_v)

  -- the corner c is left of r, and not right of l
  record Past (r l c : ℕ) : Type 0 where
    pub left_of_r : 𝟘 <ℤ cross (see r) (see c)
    pub not_right_of_l : cross (see c) (see l) ≤ℤ 𝟘

  -- past the end of the fan at e's left end, so are all later corners
  right_end_is_past :
      {m e x r l : ℕ} → UpTo G g (suc m) e → Open G g e r l → cross (see (F.left_end e)) (see l) ≤ℤ 𝟘 → Among F m (F.next e) x →
      Past r l (F.right_end x)
  right_end_is_past {e = e} {r = r} {l = l} u c k i = by_place u i (left_keeps_the_cone _ _ _ _ _ c (corner_is_beyond G h u) k)
    where
      by_place :
          {m x : ℕ} → UpTo G g (suc m) e → Among F m (F.next e) x → Cone (see (F.right_end e)) (see (F.left_end e)) (see r) (see l) →
          Past r l (F.right_end x)
      by_place u this s = rw (G.next_starts e u.is_a_face) (record { left_of_r = s.right_to_b; not_right_of_l = k })
      by_place u (after i) s =
          let o = later_corner u i in
          let start = G.next_starts e u.is_a_face in
          record {
            left_of_r = left_of_the_right_limit o c (rw start s.right_to_b);
            not_right_of_l = left_turned_is_not_left _ _ (less_is_at_most (left_of_a_ray (see l) o c.left_from_a (rw start s.left_to_b) c.left_to_b));
          }

  -- the side after one of them is one of them, or g
  next_or_g : {m e x : ℕ} → UpTo G g m e → Among F m e x → Among F m e (F.next x) ⊎ (F.next x ≡ g)
  unfolding around
  next_or_g {m = zero} u this = inr u.then_g
  next_or_g {m = suc m} u this = inl (after this)
  next_or_g {m = suc m} {e = e} {x = x} u (after i) = one_later (next_or_g (one_side_on G u) i)
    where
      one_later : Among F m (F.next e) (F.next x) ⊎ (F.next x ≡ g) → Among F (suc m) e (F.next x) ⊎ (F.next x ≡ g)
      one_later (inl j) = inl (after j)
      one_later (inr p) = inr p

  left_end_is_past :
      {m e x r l : ℕ} → UpTo G g (suc m) e → Open G g e r l → cross (see (F.left_end e)) (see l) ≤ℤ 𝟘 → Among F m (F.next e) x →
      Past r l (F.left_end x)
  left_end_is_past {m} {e} {x} {r} {l} u c k i =
      rw (← G.next_starts x (among_is_a_face G (one_side_on G u).is_a_face i)) (by_case (next_or_g (one_side_on G u) i))
    where
      by_case : Among F m (F.next e) (F.next x) ⊎ (F.next x ≡ g) → Past r l (F.right_end (F.next x))
      by_case (inl j) = right_end_is_past u c k j
      by_case (inr p) = rw p (record { left_of_r = c.right_to_b; not_right_of_l = left_turned_is_not_left _ _ c.left_to_b })

  module _ {m e r l : ℕ} (u : UpTo G g (suc m) e) (c : Open G g e r l) where
    parts_past_a_split : Between (see r) (see l) (see (F.left_end e)) → parts see F m (F.next e) r l ≡ parts see F m (F.next e) (F.left_end e) l
    parts_past_a_split b = same_parts see F m (F.next e) r (F.left_end e) l (λ x i. same_part see F x r (F.left_end e) l (same_limit u c b i))

    parts_past_the_end : cross (see (F.left_end e)) (see l) ≤ℤ 𝟘 → parts see F m (F.next e) r l ≡ []
    parts_past_the_end k =
        no_parts see F m (F.next e) r l (λ x i.
        let p = right_end_is_past u c k i in
        part_is see F x r l (F.right_end x) l (moves_left see _ _ p.left_of_r) (stays_left see _ _ (left_end_is_past u c k i).not_right_of_l)
        ∙ no_line see F x (F.right_end x) l p.not_right_of_l)

  fan_lists_the_parts : (on : ℕ → ℕ → ℕ → Sight) (m e r l : ℕ) → UpTo G g m e → Open G g e r l → Lists on (fan F on m e r l) (parts see F m e r l)
  unfolding parts
  fan_lists_the_parts on zero e r l u c = rw (fan_last F on e r l, last_part_is u c) the_last
  fan_lists_the_parts on (suc m) e r l u c = by_place (λ r l. fan_lists_the_parts on m (F.next e) r l (one_side_on G u)) (F.place (F.left_end e) r l) refl
    where
      by_place :
          ((r l : ℕ) → Open G g (F.next e) r l → Lists on (fan F on m (F.next e) r l) (parts see F m (F.next e) r l)) → (p : Place) →
          F.place (F.left_end e) r l ≡ p → Lists on (fan F on (suc m) e r l) (part see F e r l ++ parts see F m (F.next e) r l)
      by_place rest between p =
          let b = G.is_between _ _ _ p in
          rw (fan_both F on m e r l p, part_to_a_split u c b, parts_past_a_split u c b)
          (and_then (rest _ _ (open_from_next G h u (between_keeps_the_left_cone _ _ _ _ _ c b))))
      by_place rest right_of_r p =
          let k = G.is_right _ _ _ p in
          rw (fan_skips F on m e r l p, part_that_is_skipped u c k)
          (rest _ _ (open_from_next G h u (right_keeps_the_cone _ _ _ _ _ c (corner_is_beyond G h u) k)))
      by_place rest left_of_l p =
          let k = G.is_left _ _ _ p in
          rw (fan_ends F on m e r l p, part_that_ends u c k, parts_past_the_end u c k) the_last

module _ {F : Floor} {N M : ℕ} {see : ℕ → Point} {cell : ℕ → ℕ} (G : Geometry F N M see cell) {f r l : ℕ} (s : InSight G f r l) (free : F.ends f ≡ false) where
  -- beyond a seen line, the fan hands on just the parts of the plain definition, in their order
  pub fan_is_plain :
      (on : ℕ → ℕ → ℕ → Sight) →
      fan F on (F.more (F.back f)) (F.next (F.back f)) r l ≡ joined on (parts see F (F.more (F.back f)) (F.next (F.back f)) r l)
  fan_is_plain on =
      let h = G.back_is_a_face f s.is_a_face free in
      lists_joined (fan_lists_the_parts G h on _ _ r l (all_others G h) (entered_is_open G s free))

  pub hand_on_is_plain : (n : ℕ) → hand_on F n (F.back f) r l ≡ joined (follow F n) (parts see F (F.more (F.back f)) (F.next (F.back f)) r l)
  hand_on_is_plain n = hand_on_is_a_fan F n (F.back f) r l ∙ fan_is_plain (follow F n)

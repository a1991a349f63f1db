-- What the cell beyond a free face hands on, from the right to the left: one part or more, split at corners strictly between the limits. Each line handed on
-- is seen again, its limits lie within the limits before, and every direction between them crosses it strictly later.
use mathlib.Core.Bool.{false}
use mathlib.Core.Path.{◌≡◌, refl, sym, ◌∙◌, ap}
use Prim.Native.Nat.{ℕ, zero, suc, ◌≤◌, ◌<◌}
use native.Mathlib.Omega.{arith}
use lib.Signed.{◌<ℤ◌}
use Rattle.exact.proofs.Order.{𝟘}
use Rattle.plane.specs.Side.{Point}
use Rattle.plane.specs.Cone.{cross, Holds, Between, Cone, Beyond}
use Rattle.plane.proofs.Found.{between_keeps_the_right_cone, between_keeps_the_left_cone, right_keeps_the_cone, left_keeps_the_cone, right_half_is_inside, left_half_is_inside, within_the_limits_is_within_the_line, beyond_turns}
use Rattle.fan.specs.Sight.{Floor, Place, Sight, fan, follow, hand_on}
use Rattle.fan.specs.Sight.Place.{between, right_of_r, left_of_l}
use Rattle.fan.specs.Sight.Sight.{both}
use Rattle.fan.specs.Walk.{Among, Other, Leaves}
use Rattle.fan.specs.Walk.Among.{this, after}
use Rattle.fan.proofs.Exit.{Before, handed_is_later}
use Rattle.fan.proofs.Geometry.{Geometry, Seen, InSight, around, other_is_another}
use Rattle.fan.proofs.Trees.{hand_on_is_a_fan, fan_last, fan_both, fan_skips, fan_ends}

-- ---- limits within limits

-- every direction between r' and l' is between r and l
abbrev pub Within : (ℕ → Point) → ℕ → ℕ → ℕ → ℕ → Type 0
Within see r l r' l' = (d : Point) → Holds (see r') (see l') d → Holds (see r) (see l) d

-- the corner v is strictly between the limits, and each half lies within them
pub record Parted (see : ℕ → Point) (r l v : ℕ) : Type 0 where
  pub at_v : Between (see r) (see l) (see v)
  pub right_half : Within see r l r v
  pub left_half : Within see r l v l

parted : (see : ℕ → Point) (r l v : ℕ) → 𝟘 <ℤ cross (see r) (see l) → Between (see r) (see l) (see v) → Parted see r l v
parted see r l v c b = record { at_v = b; right_half = λ d. right_half_is_inside _ _ _ d c b; left_half = λ d. left_half_is_inside _ _ _ d c b }

module _ {F : Floor} {N M : ℕ} {see : ℕ → Point} {cell : ℕ → ℕ} (G : Geometry F N M see cell) where
  -- ---- the parts

  -- the line of e, another side of the cell entered through g, with the limits r and l
  pub record Part (g e r l : ℕ) : Type 0 where
    pub other : Other F g e
    pub in_sight : InSight G e r l

  -- the parts that the cell entered through g hands on between r and l, from the right to the left; `on` follows a line
  pub data Hands (on : ℕ → ℕ → ℕ → Sight) (g : ℕ) : ℕ → ℕ → Sight → Type 0 where
    last_part : {e r l : ℕ} → Part g e r l → Hands on g r l (on e r l)
    one_part :
        {e r l : ℕ} {t : Sight} → Parted see r l (F.left_end e) → Part g e r (F.left_end e) → Hands on g (F.left_end e) l t →
        Hands on g r l (both (on e r (F.left_end e)) t)

  -- what each part has, with its limits within r and l, and what splits keep, all that is handed on has
  pub over_parts :
      {on : ℕ → ℕ → ℕ → Sight} {g r l : ℕ} {t : Sight} (P : Sight → Type 0) → ((t u : Sight) → P t → P u → P (both t u)) →
      ((e r' l' : ℕ) → Part g e r' l' → Within see r l r' l' → P (on e r' l')) → Hands on g r l t → P t
  over_parts P split each (last_part p) = each _ _ _ p (λ d k. k)
  over_parts P split each (one_part c p h) =
      split _ _ (each _ _ _ p c.right_half) (over_parts P split (λ e r' l' q i. each e r' l' q (λ d k. c.left_half d (i d k))) h)

  -- ---- the fan

  -- e and the m sides after it are the sides of the cell up to g
  pub record UpTo (g m e : ℕ) : Type 0 where
    pub is_a_face : e < N
    pub in_the_cell : cell e ≡ cell g
    pub then_g : F.next (around F m e) ≡ g
    pub others : (x : ℕ) → Among F m e x → Other F g x
    pub not_round : m ≤ F.more e

  pub all_others : {g : ℕ} → g < N → UpTo g (F.more g) (F.next g)
  all_others {g} h =
      record {
        is_a_face = G.next_is_a_face g h;
        in_the_cell = G.next_in_the_cell g h;
        then_g = G.comes_round g h;
        others = λ x i. i;
        not_round = omega (arith, G.as_many_sides g h);
      }

  pub one_side_on : {g m e : ℕ} → UpTo g (suc m) e → UpTo g m (F.next e)
  unfolding around
  one_side_on {e = e} u =
      record {
        is_a_face = G.next_is_a_face e u.is_a_face;
        in_the_cell = G.next_in_the_cell e u.is_a_face ∙ u.in_the_cell;
        then_g = u.then_g;
        others = λ x i. u.others x (after i);
        not_round = omega (arith, u.not_round, G.as_many_sides e u.is_a_face);
      }

  pub not_yet_g : {g m e x : ℕ} → g < N → UpTo g m e → Among F m e x → x ≡ g → ⊥
  not_yet_g h u i = other_is_another G h (u.others _ i)

  -- what lies from e's right end to g's is seen, and the limits r and l lie in it in their order
  abbrev pub Open : ℕ → ℕ → ℕ → ℕ → Type 0
  Open g e r l = Cone (see (F.right_end e)) (see (F.right_end g)) (see r) (see l)

  pub last_is_seen : {g e r l : ℕ} → UpTo g zero e → Open g e r l → Seen G e r l
  unfolding around
  last_is_seen {g} {e} u c =
      let finish : F.left_end e ≡ F.right_end g = sym (G.next_starts e u.is_a_face) ∙ ap F.right_end u.then_g in
      rw finish c

  module _ {g m e : ℕ} (h : g < N) (u : UpTo g (suc m) e) where
    -- e's left end is not g's right end yet, so it lies beyond what is seen
    pub corner_is_beyond : Beyond (see (F.right_end e)) (see (F.right_end g)) (see (F.left_end e))
    corner_is_beyond =
        beyond_turns _ _ _
        (G.convex e g u.is_a_face h u.in_the_cell (λ p. not_yet_g h u this (sym p)) (λ p. not_yet_g h u (after this) (sym p)))

    pub open_from_next : {r l : ℕ} → Cone (see (F.left_end e)) (see (F.right_end g)) (see r) (see l) → Open g (F.next e) r l
    open_from_next c = rw (G.next_starts e u.is_a_face) c

  pub fan_hands_on : (on : ℕ → ℕ → ℕ → Sight) {g : ℕ} → g < N → (m e r l : ℕ) → UpTo g m e → Open g e r l → Hands on g r l (fan F on m e r l)
  fan_hands_on on h zero e r l u c =
      rw (fan_last F on e r l) (last_part (record { other = u.others e this; in_sight = record { is_a_face = u.is_a_face; seen = last_is_seen u c } }))
  fan_hands_on on {g} h (suc m) e r l u c = by_place (λ r l. fan_hands_on on h m (F.next e) r l (one_side_on u)) (F.place (F.left_end e) r l) refl
    where
      part : {l' : ℕ} → Seen G e r l' → Part g e r l'
      part s = record { other = u.others e this; in_sight = record { is_a_face = u.is_a_face; seen = s } }

      by_place :
          ((r l : ℕ) → Open g (F.next e) r l → Hands on g r l (fan F on m (F.next e) r l)) → (p : Place) → F.place (F.left_end e) r l ≡ p →
          Hands on g r l (fan F on (suc m) e r l)
      by_place rest between p =
          let b = G.is_between _ _ _ p in
          rw (fan_both F on m e r l p)
          (one_part (parted see r l _ c.right_to_left b) (part (between_keeps_the_right_cone _ _ _ _ _ c b))
          (rest _ _ (open_from_next h u (between_keeps_the_left_cone _ _ _ _ _ c b))))
      by_place rest right_of_r p =
          rw (fan_skips F on m e r l p) (rest _ _ (open_from_next h u (right_keeps_the_cone _ _ _ _ _ c (corner_is_beyond h u) (G.is_right _ _ _ p))))
      by_place rest left_of_l p =
          rw (fan_ends F on m e r l p) (last_part (part (left_keeps_the_cone _ _ _ _ _ c (corner_is_beyond h u) (G.is_left _ _ _ p))))

  -- ---- beyond a free face

  -- a direction between the limits of a seen line leaves by it
  pub seen_is_exit : {f r l : ℕ} → Seen G f r l → (d : Point) → Holds (see r) (see l) d → Leaves F see d f
  seen_is_exit s d k = within_the_limits_is_within_the_line _ _ _ _ d s k

  -- the line of f has the limits r and l; beyond it the line of e is handed on with the limits r' and l'
  pub record HandedOn (f r l e r' l' : ℕ) : Type 0 where
    pub part : Part (F.back f) e r' l'
    pub within : Within see r l r' l'
    pub exit : (d : Point) → Holds (see r') (see l') d → Leaves F see d e
    pub later : (d : Point) → Holds (see r') (see l') d → Before F see d f e

  module _ {f r l : ℕ} (s : InSight G f r l) (free : F.ends f ≡ false) where
    pub entered_is_open : Open (F.back f) (F.next (F.back f)) r l
    entered_is_open =
        let h = s.is_a_face in
        rw (G.next_starts (F.back f) (G.back_is_a_face f h free), G.back_finishes f h free, G.back_starts f h free) s.seen

    pub hands : (n : ℕ) → Hands (follow F n) (F.back f) r l (hand_on F n (F.back f) r l)
    hands n =
        let g = G.back_is_a_face f s.is_a_face free in
        rw (hand_on_is_a_fan F n (F.back f) r l) (fan_hands_on (follow F n) g _ _ r l (all_others g) entered_is_open)

    -- what each line handed on has, and what splits keep, all that is handed on beyond f has
    pub over_hands :
        (n : ℕ) (P : Sight → Type 0) → ((t u : Sight) → P t → P u → P (both t u)) →
        ((e r' l' : ℕ) → HandedOn f r l e r' l' → P (follow F n e r' l')) → P (hand_on F n (F.back f) r l)
    over_hands n P split each = over_parts P split (λ e r' l' p i. each e r' l' (handed_on p i)) (hands n)
      where
        handed_on : {e r' l' : ℕ} → Part (F.back f) e r' l' → Within see r l r' l' → HandedOn f r l e r' l'
        handed_on p i =
            record {
              part = p;
              within = i;
              exit = seen_is_exit p.in_sight.seen;
              later = λ d k. handed_is_later G s.is_a_face free p.other d (seen_is_exit p.in_sight.seen d k);
            }

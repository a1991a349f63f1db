-- The door is always seen from the same side from one stand, and no route crosses it twice (document 01, "Changing a door").
use mathlib.Core.Bool.{true}
use mathlib.Core.List.{List, [], ◌∷◌}
use mathlib.Core.Logic.{◌⊎◌, inl, inr}
use mathlib.Core.Path.{◌≡◌, sym, ◌∙◌, ap, subst}
use Prim.Native.Nat.{ℕ, ◌<◌}
use native.Mathlib.Omega.{arith}
use lib.ListN.{length, get_or}
use lib.Signed.{◌<ℤ◌, clash_ℤ}
use Rattle.exact.proofs.Order.{𝟘, less_is_at_most}
use Rattle.plane.specs.Side.{Point}
use Rattle.plane.specs.Cone.{cross}
use Rattle.plane.proofs.Found.{left_turned_is_right}
use Rattle.fan.specs.Sight.{Floor, Sight, Standing, follow, lines_around, unentered, seen_from}
use Rattle.fan.specs.Sight.Sight.{row, pass, both, cut}
use Rattle.fan.specs.Once.{At}
use Rattle.fan.proofs.Places.{at_no_place, at_the_only_place, either_list, read_is_at}
use Rattle.fan.proofs.RowCounts.{over_lines}
use Rattle.fan.proofs.Geometry.{Geometry, InSight}
use Rattle.fan.proofs.Tree.{Source, Grown, grown}
use Rattle.fan.proofs.Tree.Grown.{ends, too_many, crosses, keeps, splits}
use Rattle.fan.proofs.Around.{Stands, around_the_stand}
use Rattle.fan.proofs.Twice.{AllDifferent, WayDown, no_line_of_sight_enters_a_cell_twice}
use Rattle.fan.proofs.Twice.WayDown.{at_a_row, across, right_of_the_split, left_of_the_split}
use Rattle.runs.specs.Route.{Routed, routed, way}
use Rattle.runs.specs.Door.{is_door}
use Rattle.runs.proofs.Lists.{at_mapped, first_or_after}
use Rattle.runs.proofs.Doors.{door_is_one_of_its_faces}

-- ---- faces that are seen

-- face e is seen: its right end is on the right
abbrev pub Facing : Floor → (ℕ → Point) → ℕ → Type 0
Facing F see e = 𝟘 <ℤ cross (see (F.right_end e)) (see (F.left_end e))

module _ (F : Floor) (see : ℕ → Point) (f₀ g₀ : ℕ)
    (reversed_start : F.right_end g₀ ≡ F.left_end f₀) (reversed_finish : F.left_end g₀ ≡ F.right_end f₀) where
  -- a line is not seen from both sides
  not_from_both_sides : Facing F see f₀ → Facing F see g₀ → ⊥
  not_from_both_sides h k = clash_ℤ (rw (reversed_start, reversed_finish) at k) (less_is_at_most (left_turned_is_right _ _ h))

  -- the door is seen from one side only
  pub seen_from_one_side : (e e' : ℕ) → is_door f₀ g₀ e ≡ true → is_door f₀ g₀ e' ≡ true → Facing F see e → Facing F see e' → e ≡ e'
  seen_from_one_side e e' d d' h h' = by_faces (door_is_one_of_its_faces f₀ g₀ e d) (door_is_one_of_its_faces f₀ g₀ e' d')
    where
      by_faces : (e ≡ f₀) ⊎ (e ≡ g₀) → (e' ≡ f₀) ⊎ (e' ≡ g₀) → e ≡ e'
      by_faces (inl p) (inl q) = p ∙ sym q
      by_faces (inl p) (inr q) = absurd (not_from_both_sides (rw p at h) (rw q at h'))
      by_faces (inr p) (inl q) = absurd (not_from_both_sides (rw q at h') (rw p at h))
      by_faces (inr p) (inr q) = p ∙ sym q

-- ---- ways

-- a row's way is a way down the tree
way_goes_down : (t : Sight) {x : Routed} {i : ℕ} → At x (routed t) i → (e : ℕ) × (p : List ℕ) × WayDown t e p × (way x ≡ e ∷ p)
unfolding routed way
way_goes_down (row f r l k) p = (f, [], at_a_row, ap way (at_the_only_place p))
way_goes_down (pass f r l t) p =
    let (y, q, same) = at_mapped (routed t) p in
    let (e, s, w, k) = way_goes_down t q in
    (f, e ∷ s, across w, ap way same ∙ ap (λ (z : List ℕ). f ∷ z) k)
way_goes_down (both t u) {x} p =
    either_list (routed t) p
    (λ i q. let (e, s, w, k) = way_goes_down t q in (e, s, right_of_the_split w, k))
    (λ i q. let (e, s, w, k) = way_goes_down u q in (e, s, left_of_the_split w, k))
way_goes_down cut p = absurd (at_no_place p)

-- the way to every row of a tree has P
abbrev EveryWay : (List ℕ → Type 0) → Sight → Type 0
EveryWay P t = (x : Routed) (i : ℕ) → At x (routed t) i → P (way x)

every_way_of_both : (P : List ℕ → Type 0) (t u : Sight) → EveryWay P t → EveryWay P u → EveryWay P (both t u)
unfolding routed
every_way_of_both P t u h k x i p = either_list (routed t) p (λ i q. h x i q) (λ i q. k x i q)

-- every face of a list is seen
abbrev AllFacing : Floor → (ℕ → Point) → List ℕ → Type 0
AllFacing F see p = (e j : ℕ) → At e p j → Facing F see e

module _ {F : Floor} {N M : ℕ} {see : ℕ → Point} {cell : ℕ → ℕ} (G : Geometry F N M see cell) where
  -- every face on the way to a row is seen
  abbrev AllSeen : Sight → Type 0
  AllSeen t = EveryWay (AllFacing F see) t

  tree_way_is_seen : {c : Source} {r l : ℕ} {t : Sight} → Grown G c r l t → AllSeen t
  unfolding routed way
  tree_way_is_seen (ends {f = f} s k) x i p e j q =
      let same : e ≡ f = at_the_only_place (subst (λ (x : Routed). At e (way x) j) (at_the_only_place p) q) in
      rw same s.seen.seen
  tree_way_is_seen (too_many s) x i p e j q = absurd (at_no_place p)
  tree_way_is_seen (crosses {f = f} {t = t} s free t₁) x i p e j q =
      let (y, o, same) = at_mapped (routed t) p in
      let q' : At e (f ∷ way y) j = subst (λ (x : Routed). At e (way x) j) same q in
      first_or_after q' (λ c. rw c s.seen.seen) (λ k q. tree_way_is_seen t₁ y i o e k q)
  tree_way_is_seen (keeps o t₁) x i p e j q = tree_way_is_seen t₁ x i p e j q
  tree_way_is_seen (splits {t = t} {u = u} o b t₁ t₂) x i p e j q =
      every_way_of_both (AllFacing F see) t u (λ x i p e j q. tree_way_is_seen t₁ x i p e j q) (λ x i p e j q. tree_way_is_seen t₂ x i p e j q) x i p e j q

  -- ---- the listing

  module _ {p : Standing} (S : Stands F N see p) where
    -- what the ways through each line have
    every_way_from_the_stand : (P : List ℕ → Type 0)
        → ((e : ℕ) → InSight G e (F.right_end e) (F.left_end e) → EveryWay P (follow F (unentered M p) e (F.right_end e) (F.left_end e))) → EveryWay P (seen_from F M p)
    unfolding seen_from
    every_way_from_the_stand P each =
        let A = around_the_stand G S in
        over_lines F (EveryWay P) (every_way_of_both P) (unentered M p) (lines_around F p) A.some_line (λ e i a. each e (A.in_sight e i a))

    -- every face on the way to a row is seen
    pub way_is_seen : {i j e : ℕ} {x : Routed} → At x (routed (seen_from F M p)) i → At e (way x) j → Facing F see e
    way_is_seen p q = every_way_from_the_stand (AllFacing F see) (λ e s. tree_way_is_seen (grown G _ e _ _ s)) _ _ p _ _ q

    -- no way enters a cell twice
    pub no_way_enters_a_cell_twice : {i : ℕ} {x : Routed} → At x (routed (seen_from F M p)) i → AllDifferent cell (way x)
    no_way_enters_a_cell_twice p =
        every_way_from_the_stand (AllDifferent cell)
        (λ s c x i o.
        let (e, q, w, same) = way_goes_down _ o in
        rw same (no_line_of_sight_enters_a_cell_twice G _ s _ _ c e q w))
        _ _ p

    module _ (f₀ g₀ : ℕ) (reversed_start : F.right_end g₀ ≡ F.left_end f₀) (reversed_finish : F.left_end g₀ ≡ F.right_end f₀) where
      -- no route crosses the door twice, nor ends on it after crossing it
      pub no_way_meets_the_door_twice : {i : ℕ} {x : Routed} → At x (routed (seen_from F M p)) i → (a b : ℕ) → a < b → b < length (way x)
          → is_door f₀ g₀ (get_or (way x) a 0) ≡ true → is_door f₀ g₀ (get_or (way x) b 0) ≡ true → ⊥
      no_way_meets_the_door_twice {x = x} p a b h k d d' =
          no_way_enters_a_cell_twice p a b h k
          (ap cell (seen_from_one_side F see f₀ g₀ reversed_start reversed_finish _ _ d d'
          (way_is_seen p (read_is_at (way x) a 0 (omega arith))) (way_is_seen p (read_is_at (way x) b 0 k))))

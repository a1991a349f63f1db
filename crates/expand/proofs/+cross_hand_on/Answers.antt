-- The proof of the cycle of calls {cross, hand_on}.
use mathlib.Core.Bool.{Bool, true, false, ◌||◌}
use mathlib.Core.Path.{◌≡◌, refl, sym, ap, ◌∙◌, subst}
use Prim.Native.Nat.{ℕ, ◌+◌, ◌*◌, ◌-◌, ◌/◌, ◌<◌, ◌≤◌}
use mathlib.Core.List.{[]}
use native.Mathlib.Omega.{arith}
use lib.ListN.{length, get_or, length-set}
use mir.Val.{bool_byte}
use Rattle.plane.specs.Side.{Point}
use Rattle.reach.specs.Reach.{out_of_reach, far}
use Rattle.fan.specs.Sight.{fan, follow}
use Rattle.fan.specs.Sight.Sight.{row, both}
use Rattle.fan.proofs.Trees.{follow_a_wall}
use Rattle.expand.specs.Floor.{floor_of}
use Rattle.expand.specs.Remains.{Remains}
use Rattle.expand.proofs.Expansion.{no_wall_where_passed, Passed, passed, beyond_remains, less_remains, second_remains, none_remains, room_remains, room_for_a_row, room_for_the_first, row_follows, hands_the_last, hands_both, last_is_taken, first_takes_all, all_is_taken, ends_there}
use Rattle.expand.proofs.+cross_hand_on.Goals as goal
use Rattle.expand.proofs.+cross_hand_on.Goals.{cross-Then-is_end, cross-Else-is_end, cross-Else-handed-eq0, hand_on-After-narrow-sides, hand_on-Else-sides-eq0}

-- a row's fourth number is what the test says, as a number
fourth_number : (R : ℕ) (a b : Point) {test : Bool} {n : ℕ} → n ≡ bool_byte test → test ≡ out_of_reach R a b → far R a b ≡ n
unfolding far
fourth_number R a b {test} is_n e = ap number (sym e) ∙ by_test test ∙ sym is_n
  where
    number : Bool → ℕ
    number t = elim t [ true ↦ 1 | false ↦ 0 ]

    by_test : (t : Bool) → number t ≡ bool_byte t
    by_test true = refl
    by_test false = refl

-- ---- crossing a line

-- sight ends by what is across the line and how far it is, as tested
ends_as_tested : (wall : Bool) {a far test : Bool} → a ≡ far → test ≡ (wall || a) → (wall || far) ≡ test
ends_as_tested wall e t = sym (t ∙ ap (λ (b : Bool). wall || b) e)

pub cross-bounds-faces-f : goal.cross-bounds-faces-f
cross-bounds-faces-f t c = c.requires.lines.1.stands _ c.loop-table.invariant.1.1.0

is_row : (t : ℕ) (c : cross-Then-is_end t) →
    let i = c.loop-table in
    let F = floor_of c.args.seen.now c.args.lines.now c.args.faces.now c.args.reach in
    follow F i.unentered i.f i.r c.args.l ≡ row i.f i.r c.args.l (F.far i.f)
is_row t c = follow_a_wall _ _ _ _ _ (ends_as_tested _ c.is_far-far.ensures c.is_end.ensures ∙ c.if-is_end.true)

row_fits : (t : ℕ) (c : cross-Then-is_end t) → c.args.at + 4 * c.loop-table.rows + 4 ≤ length c.loop-table.table
row_fits t c = room_for_a_row _ _ (is_row t c) (room_remains _ _ _ _ _ _ _ _ c.loop-table.invariant.0 (c.requires.whole, c.requires.l_in_bounds))

pub cross-bounds-table-end : goal.cross-bounds-table-end
cross-bounds-table-end t c = omega (arith, row_fits t c)

pub cross-bounds-table-end-then-is_end : goal.cross-bounds-table-end-then-is_end
cross-bounds-table-end-then-is_end t c = simp length-set (omega (arith, row_fits t c))

pub cross-bounds-table-end-then-is_end-2 : goal.cross-bounds-table-end-then-is_end-2
cross-bounds-table-end-then-is_end-2 t c = simp length-set (omega (arith, row_fits t c))

pub cross-bounds-table-end-then-is_end-3 : goal.cross-bounds-table-end-then-is_end-3
cross-bounds-table-end-then-is_end-3 t c = simp length-set (omega (arith, row_fits t (goal.at.cross-bounds-table-end-then-is_end-3 t c).Then-is_end))

pub cross-returns-then-is_end : goal.cross-returns-then-is_end
cross-returns-then-is_end t c =
    let number = fourth_number _ _ _ c.from.ensures c.is_far-far.ensures in
    none_remains _ _ _ _ _ _ _ _ c.loop-table.invariant.0 (row_follows _ _ _ (is_row t (goal.at.cross-returns-then-is_end t c).Then-is_end ∙ ap (row c.loop-table.f c.loop-table.r c.args.l) number)) refl

is_passed : (t : ℕ) (c : cross-Else-is_end t) →
    let i = c.loop-table in
    Passed (floor_of c.args.seen.now c.args.lines.now c.args.faces.now c.args.reach) i.unentered i.f i.r c.args.l
is_passed t c =
    passed _ c.loop-table.unentered _ _ _ (ends_as_tested _ c.is_far-far.ensures c.is_end.ensures ∙ c.if-is_end.false) c.loop-table.invariant.0.whole

-- the face on the other side
abbrev across : (t : ℕ) → cross-Else-is_end t → ℕ
across t c = get_or c.args.lines.now (4 * c.loop-table.f + 1) 0

back_exists : (t : ℕ) (c : cross-Else-is_end t) → 4 * across t c + 3 < length c.args.lines.now
back_exists t c = c.requires.lines.0.across_exists _ c.loop-table.invariant.1.1.0 (no_wall_where_passed _ _ (sym c.is_end.ensures ∙ c.if-is_end.false))

next_exists : (t : ℕ) (c : cross-Else-is_end t) →
    4 * (floor_of c.args.seen.now c.args.lines.now c.args.faces.now c.args.reach).next (across t c) + 3 < length c.args.lines.now
next_exists t c = c.requires.lines.0.next_exists (across t c) (back_exists t c)

-- the line is crossed, and what the cell beyond hands on remains
entered : (t : ℕ) (c : cross-Else-is_end t) →
    let i = c.loop-table in
    let F = floor_of c.args.seen.now c.args.lines.now c.args.faces.now c.args.reach in
    Remains c.args.table.now c.args.at c.args.left (follow F c.args.unentered c.args.f c.args.r c.args.l) i.table (c.args.at + 4 * i.rows) i.rows (i.left - 1) (fan F (follow F (i.unentered - 1)) (F.more (across t c)) (F.next (across t c)) i.r c.args.l)
entered t c = let i = c.loop-table.invariant in beyond_remains _ _ _ _ _ _ _ _ i.0 (is_passed t c).is i.1.1.2

pub cross-overflow_sub-unentered : goal.cross-overflow_sub-unentered
cross-overflow_sub-unentered t c = (is_passed t c).one_unentered

pub cross-returns-then-left-eq0 : goal.cross-returns-then-left-eq0
cross-returns-then-left-eq0 t c =
    let d = (goal.at.cross-returns-then-left-eq0 t c).Else-is_end in
    let h = c.loop-table.invariant.0 in
    ends_there _ _ _ _ _ _ _ _ h (last_is_taken _ _ _ _ _ _ _ _ h (is_passed t d).is (omega (arith, c.if-left-eq0.true)))

pub cross-hand_on-handed-requires : goal.cross-hand_on-handed-requires
cross-hand_on-handed-requires t c =
    let d = (goal.at.cross-hand_on-handed-requires t c).Else-is_end in
    let i = c.loop-table.invariant in
    let none = c.if-left-eq0.false in (
      omega (arith, c.decreases, i.1.0, (is_passed t d).one_unentered),
      (c.requires.lines, ((next_exists t d, i.1.1.1, c.requires.f_in_bounds.2, omega arith), room_remains _ _ _ _ _ _ _ _ (entered t d) (c.requires.whole, c.requires.l_in_bounds))),
    )

pub cross-returns-then-handed-eq0 : goal.cross-returns-then-handed-eq0
cross-returns-then-handed-eq0 t c =
    let d = (goal.at.cross-returns-then-handed-eq0 t c).Else-is_end in
    ends_there _ _ _ _ _ _ _ _ (entered t d) (c.hand_on-handed.ensures.left_bound c.if-handed-eq0.true)

-- the last line remains
one_remains : (t : ℕ) (c : cross-Else-handed-eq0 t) → let i = c.loop-table in
    let F = floor_of c.args.seen.now c.args.lines.now c.args.faces.now c.args.reach in
    let o = c.hand_on-handed.result in
    Remains i.table (c.args.at + 4 * i.rows) (i.left - 1) (fan F (follow F (i.unentered - 1)) (F.more (get_or c.args.lines.now (4 * i.f + 1) 0)) (F.next (get_or c.args.lines.now (4 * i.f + 1) 0)) i.r c.args.l) c.hand_on-handed.new.table (c.args.at + 4 * i.rows + 4 * o.rows) o.rows o.left (follow F (i.unentered - 1) o.last o.right c.args.l)
one_remains t c = let none = c.if-handed-eq0.false in c.hand_on-handed.ensures.remains (omega arith)

pub cross-overflow_add-rows : goal.cross-overflow_add-rows
cross-overflow_add-rows t c =
    let at = goal.at.cross-overflow_add-rows t c in
    let rest = less_remains _ _ _ _ _ _ _ _ (entered t at.Else-is_end) (one_remains t at.Else-handed-eq0) refl refl in
    omega (arith, (room_remains _ _ _ _ _ _ _ _ rest (c.requires.whole, c.requires.l_in_bounds)).1, c.well_formed.1.1.1.1.0.0)

pub cross-loop-table-smaller : goal.cross-loop-table-smaller
cross-loop-table-smaller t c = omega (arith, (is_passed t (goal.at.cross-loop-table-smaller t c).Else-is_end).one_unentered)

pub cross-loop-table-preserved : goal.cross-loop-table-preserved
cross-loop-table-preserved t c =
    let at = goal.at.cross-loop-table-preserved t c in
    let none = c.if-handed-eq0.false in
    let e = c.hand_on-handed.ensures.last_in_bounds in
    (less_remains _ _ _ _ _ _ _ _ (entered t at.Else-is_end) (one_remains t at.Else-handed-eq0) refl refl, (omega (arith, c.loop-table.invariant.1.0), (e.0, e.1, omega arith)))

-- ---- handing on the sides of a cell

-- handing on goes on from another side
narrowed : (t : ℕ) (c : hand_on-After-narrow-sides t) →
    let i = c.loop-sides in
    let o = c.narrow-sides.result in
    let F = floor_of c.args.seen.now c.args.lines.now c.args.faces.now c.args.reach in
    Remains c.args.table.now c.args.at c.args.left (fan F (follow F c.args.unentered) c.args.more c.args.e c.args.r c.args.l) i.table (c.args.at + 4 * i.rows) i.rows i.left (fan F (follow F c.args.unentered) o.more o.side i.r c.args.l)
narrowed t c =
    let i = c.loop-sides in
    let F = floor_of c.args.seen.now c.args.lines.now c.args.faces.now c.args.reach in
    subst
    (Remains c.args.table.now c.args.at c.args.left (fan F (follow F c.args.unentered) c.args.more c.args.e c.args.r c.args.l) i.table (c.args.at + 4 * i.rows) i.rows i.left)
    ((c.narrow-sides.ensures.by_index.0 c.args.faces.now c.args.reach).same (follow F c.args.unentered))
    i.invariant.0

pub hand_on-returns-then-sides-eq0-clause-remains : goal.hand_on-returns-then-sides-eq0-clause-remains
hand_on-returns-then-sides-eq0-clause-remains t c =
    let i = c.loop-sides in
    let F = floor_of c.args.seen.now c.args.lines.now c.args.faces.now c.args.reach in
    λ some. subst
    (Remains c.args.table.now c.args.at c.args.left (fan F (follow F c.args.unentered) c.args.more c.args.e c.args.r c.args.l) i.table (c.args.at + 4 * i.rows) i.rows i.left)
    (hands_the_last F c.args.unentered c.narrow-sides.result.side i.r c.args.l c.if-sides-eq0.true)
    (narrowed t (goal.at.hand_on-returns-then-sides-eq0-clause-remains t c).After-narrow-sides)

-- the corner at which the side ends, and the side after it
abbrev end : (t : ℕ) → hand_on-After-narrow-sides t → ℕ
end t c = (floor_of c.args.seen.now c.args.lines.now c.args.faces.now c.args.reach).left_end c.narrow-sides.result.side

abbrev following : (t : ℕ) → hand_on-After-narrow-sides t → ℕ
following t c = (floor_of c.args.seen.now c.args.lines.now c.args.faces.now c.args.reach).next c.narrow-sides.result.side

end_exists : (t : ℕ) (c : hand_on-After-narrow-sides t) → end t c < length c.args.seen.now / 2
end_exists t c = c.requires.lines.0.end_exists _ c.narrow-sides.ensures.by_index.1

following_exists : (t : ℕ) (c : hand_on-After-narrow-sides t) → 4 * following t c + 3 < length c.args.lines.now
following_exists t c = c.requires.lines.0.next_exists _ c.narrow-sides.ensures.by_index.1

hands_two : (t : ℕ) (c : hand_on-Else-sides-eq0 t) →
    let i = c.loop-sides in
    let o = c.narrow-sides.result in
    let F = floor_of c.args.seen.now c.args.lines.now c.args.faces.now c.args.reach in
    fan F (follow F c.args.unentered) o.more o.side i.r c.args.l ≡ both (follow F c.args.unentered o.side i.r (F.left_end o.side)) (fan F (follow F c.args.unentered) (o.more - 1) (F.next o.side) (F.left_end o.side) c.args.l)
hands_two t c =
    let n = c.narrow-sides in
    hands_both (floor_of c.args.seen.now c.args.lines.now c.args.faces.now c.args.reach) c.args.unentered n.result.side c.loop-sides.r c.args.l n.result.more c.if-sides-eq0.false (n.ensures.splits c.if-sides-eq0.false)

pub hand_on-cross-one-requires : goal.hand_on-cross-one-requires
hand_on-cross-one-requires t c =
    let at = goal.at.hand_on-cross-one-requires t c in
    let n = at.After-narrow-sides in
    let i = c.loop-sides.invariant in
    let first_fits = room_for_the_first _ _ (hands_two t at.Else-sides-eq0) (room_remains _ _ _ _ _ _ _ _ (narrowed t n) (c.requires.whole, c.requires.l_in_bounds)) in
    (omega (arith, c.decreases), (c.requires.lines, ((c.narrow-sides.ensures.by_index.1, i.1.1, end_exists t n, i.1.2), first_fits)))

-- the side's line takes all passages that are left
pub hand_on-returns-then-one-eq0-clause-left_bound : goal.hand_on-returns-then-one-eq0-clause-left_bound
hand_on-returns-then-one-eq0-clause-left_bound t c =
    let at = goal.at.hand_on-returns-then-one-eq0-clause-left_bound t c in
    let n = narrowed t at.After-narrow-sides in
    λ z. all_is_taken _ _ _ _ _ _ _ _ n (first_takes_all _ _ _ _ _ _ _ _ n (hands_two t at.Else-sides-eq0) c.cross-one.ensures c.if-one-eq0.true)

-- the side's line is followed to its rows
pub hand_on-overflow_add-rows : goal.hand_on-overflow_add-rows
hand_on-overflow_add-rows t c =
    let at = goal.at.hand_on-overflow_add-rows t c in
    let none = c.if-one-eq0.false in
    let followed = second_remains _ _ _ _ _ _ _ _ (narrowed t at.After-narrow-sides) (hands_two t at.Else-sides-eq0) c.cross-one.ensures (omega arith) c.cross-one.auto.table refl refl in
    omega (arith, (room_remains _ _ _ _ _ _ _ _ followed (c.requires.whole, c.requires.l_in_bounds)).1, c.well_formed.1.1.1.1.0.0)

pub hand_on-loop-sides-smaller : goal.hand_on-loop-sides-smaller
hand_on-loop-sides-smaller t c =
    let none = c.if-sides-eq0.false in
    omega (arith, none, (c.narrow-sides.ensures.by_index.0 [] 0).no_more)

pub hand_on-loop-sides-preserved : goal.hand_on-loop-sides-preserved
hand_on-loop-sides-preserved t c =
    let at = goal.at.hand_on-loop-sides-preserved t c in
    let none = c.if-one-eq0.false in (
      second_remains _ _ _ _ _ _ _ _ (narrowed t at.After-narrow-sides) (hands_two t at.Else-sides-eq0) c.cross-one.ensures (omega arith) c.cross-one.auto.table refl refl,
      (following_exists t at.After-narrow-sides, end_exists t at.After-narrow-sides, omega arith),
    )

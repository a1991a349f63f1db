-- `expand::narrow` meets its contract: each side that is left out ends on or right of the right limit, and the one after which none is handed on ends on
-- or left of the left limit.
use mathlib.Core.Path.{refl, subst, sym}
use mathlib.Core.List.{List}
use Prim.Native.Nat.{ℕ, ◌+◌, ◌*◌, ◌<◌}
use native.Mathlib.Omega.{arith}
use lib.IntN.{ℤ}
use lib.ListN.{length, get_or}
use lib.Signed.{◌<ℤ◌, ◌≤ℤ◌}
use mir.Syntax.{w64}
use Rattle.exact.proofs.Order.{𝟘, le_leZ, lt_leZ, ltZ_true, ltZ_false}
use Rattle.exact.proofs.Bounds.{handed}
use Rattle.expand.specs.Floor.{floor_of, Lines}
use Rattle.expand.proofs.Expansion.{narrows_none, narrows_one_more, narrows_to_one, is_right_of_r, is_left_of_l, is_between}
use Rattle.expand.proofs.narrow.Goals as goal

pub loop-more-init : goal.loop-more-init
loop-more-init c = (λ fs R. narrows_none (floor_of c.args.seen.now c.args.lines.now fs R) c.args.r c.args.l c.args.more c.args.e, c.requires.e_in_bounds.0)

pub overflow_mul-v : goal.overflow_mul-v
overflow_mul-v c = omega (arith, c.loop-more.invariant.1, c.requires.lines.few_faces)

pub offset_bounds-lines-e : goal.offset_bounds-lines-e
offset_bounds-lines-e c = omega (arith, c.loop-more.invariant.1, c.requires.lines.few_faces)

pub bounds-lines-e : goal.bounds-lines-e
bounds-lines-e c = omega (arith, c.loop-more.invariant.1)

pub turn-requires : goal.turn-requires
turn-requires c = record { near = c.requires.lines.corners; a_in_bounds = (c.requires.e_in_bounds.1, c.requires.lines.end_exists _ c.loop-more.invariant.1) }

pub turn-requires-then-turn-gt0 : goal.turn-requires-then-turn-gt0
turn-requires-then-turn-gt0 c = record { near = c.requires.lines.corners; a_in_bounds = (c.requires.lines.end_exists _ c.loop-more.invariant.1, c.requires.e_in_bounds.2) }

pub returns-then-turn-gt0-2 : goal.returns-then-turn-gt0-2
returns-then-turn-gt0-2 c = let past_right = subst (λ (z : ℤ). 𝟘 <ℤ z) (handed w64 c.turn.type_inv c.turn.ensures) (ltZ_true _ _ c.if-turn-gt0.true) in
    let before_left = subst (λ (z : ℤ). 𝟘 <ℤ z) (handed w64 c.turn-then-turn-gt0.type_inv c.turn-then-turn-gt0.ensures) (ltZ_true _ _ c.if-turn-gt0-2.true) in
    record { by_index = c.loop-more.invariant; splits = λ h. sym (is_between _ _ _ _ (lt_leZ past_right) (lt_leZ before_left)) }

pub returns-then-turn-gt0 : goal.returns-then-turn-gt0
returns-then-turn-gt0 c = let i = c.loop-more in
    let past_right = subst (λ (z : ℤ). 𝟘 <ℤ z) (handed w64 c.turn.type_inv c.turn.ensures) (ltZ_true _ _ c.if-turn-gt0.true) in
    let at_left = subst (λ (z : ℤ). z ≤ℤ 𝟘) (handed w64 c.turn-then-turn-gt0.type_inv c.turn-then-turn-gt0.ensures) (ltZ_false _ _ c.if-turn-gt0-2.false) in
    record { by_index = (λ fs R. narrows_to_one _ _ _ _ _ (i.invariant.0 fs R) c.loop-more-test.true (sym (is_left_of_l _ _ _ _ (lt_leZ past_right) (le_leZ at_left))), i.invariant.1); splits = λ h. absurd (h refl) }

pub overflow_mul-e : goal.overflow_mul-e
overflow_mul-e c = omega (arith, c.loop-more.invariant.1, c.requires.lines.few_faces)

pub overflow_add-e : goal.overflow_add-e
overflow_add-e c = omega (arith, c.loop-more.invariant.1, c.requires.lines.few_faces)

pub offset_bounds-lines-e-in-loop-more : goal.offset_bounds-lines-e-in-loop-more
offset_bounds-lines-e-in-loop-more c = omega (arith, c.loop-more.invariant.1, c.requires.lines.few_faces)

pub bounds-lines-e-in-loop-more : goal.bounds-lines-e-in-loop-more
bounds-lines-e-in-loop-more c = omega (arith, c.loop-more.invariant.1)

-- the next side exists
next_there : {zs : List ℤ} {ls : List ℕ} → Lines zs ls → (side : ℕ) → 4 * side + 3 < length ls → 4 * get_or ls (4 * side + 3) 0 + 3 < length ls
next_there h side here = h.next_exists side here

pub overflow_cast-e : goal.overflow_cast-e
overflow_cast-e c = omega (arith, next_there c.requires.lines _ c.loop-more.invariant.1, c.requires.lines.few_faces)

pub overflow_sub-more : goal.overflow_sub-more
overflow_sub-more c = c.loop-more-test.true

pub loop-more-smaller : goal.loop-more-smaller
loop-more-smaller c = omega (arith, c.loop-more-test.true)

pub loop-more-preserved : goal.loop-more-preserved
loop-more-preserved c = let i = c.loop-more in
    let not_left = subst (λ (z : ℤ). z ≤ℤ 𝟘) (handed w64 c.turn.type_inv c.turn.ensures) (ltZ_false _ _ c.if-turn-gt0.false) in (
      λ fs R. narrows_one_more _ _ _ _ _ (i.invariant.0 fs R) c.loop-more-test.true (sym (is_right_of_r _ _ _ _ (le_leZ not_left))),
      next_there c.requires.lines _ c.loop-more.invariant.1,
    )

pub returns : goal.returns
returns c = record { by_index = c.loop-more.invariant; splits = λ h. absurd (h (omega (arith, c.loop-more-test.false))) }

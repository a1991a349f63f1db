-- `expand::is_far` meets its contract.
use mathlib.Core.Bool.{false, not}
use mathlib.Core.Path.{◌≡◌, refl, sym, ◌∙◌, ap, ap₂}
use Prim.Native.Nat.{ℕ, zero, suc}
use Rattle.plane.specs.Side.{Point}
use Rattle.reach.specs.Reach.{in_reach, out_of_reach}
use Rattle.expand.proofs.is_far.Goals as goal

module _ (a b : Point) where
  unlimited : (R : ℕ) → R ≡ 0 → out_of_reach R a b ≡ false
  unfolding out_of_reach
  unlimited R e = rw e refl

  limited : (R : ℕ) → (R ≡ 0 → ⊥) → out_of_reach R a b ≡ not (in_reach R a b)
  unfolding out_of_reach
  limited zero n = absurd (n refl)
  limited (suc r) n = refl

pub returns-then-reach-eq0 : goal.returns-then-reach-eq0
returns-then-reach-eq0 c = sym (unlimited _ _ c.args.reach c.if-reach-eq0.true)

pub returns : goal.returns
returns c =
    ap not (c.is_in_reach.ensures ∙ ap₂ (in_reach c.args.reach) c.at-right.ensures c.at-left.ensures)
    ∙ sym (limited _ _ c.args.reach c.if-reach-eq0.false)

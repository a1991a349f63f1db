-- What a call leaves: nothing is touched where the reply has no room for seven numbers, else the answer's numbers are put there.
use mathlib.Core.Bool.{Bool}
use mathlib.Core.List.{List}
use mathlib.Core.Path.{◌≡◌, sym, ap, ◌∙◌}
use Prim.Native.Nat.{ℕ, ◌<◌, ◌≤◌}
use borrow.Author.Tests.{le-leb, lt-leb}
use lib.ListN.{length}
use lib.Seq.{sets}
use Rattle.limits.specs.Reply.{Reply}
use Rattle.exports.specs.Reply.{numbers_of, has_seven, replied, left}

-- a call that lends nothing but the reply
module _ (reply : List ℕ) where
  pub none_replied : (said : Reply) → length reply < 7 → reply ≡ replied (has_seven reply) reply (numbers_of said)
  none_replied said h = ap (λ (t : Bool). replied t reply (numbers_of said)) (sym (lt-leb _ _ h))

  pub all_replied : {answer said : Reply} {new : List ℕ} → 7 ≤ length reply → answer ≡ said → new ≡ sets reply 0 (numbers_of answer) → new ≡ replied (has_seven reply) reply (numbers_of said)
  all_replied {answer} {said} {new} h e f =
      f
      ∙ ap (λ (r : Reply). sets reply 0 (numbers_of r)) e
      ∙ ap (λ (t : Bool). replied t reply (numbers_of said)) (sym (le-leb _ _ h))

-- a call that lends other memory too
module _ {A : Type 0} (old : A) (reply : List ℕ) where
  abbrev Left : Reply × A → A → List ℕ → Type 0
  Left said lent r = ◌≡◌ {A = A × List ℕ} (lent, r) (left (has_seven reply) old said.1, replied (has_seven reply) reply (numbers_of said.0))

  pub none_left : (said : Reply × A) → length reply < 7 → Left said old reply
  none_left said h = ap (λ (t : Bool). (left t old said.1, replied t reply (numbers_of said.0))) (sym (lt-leb _ _ h))

  pub all_left : {answer : Reply} {lent : A} {said : Reply × A} {new : List ℕ} → 7 ≤ length reply → (answer, lent) ≡ said → new ≡ sets reply 0 (numbers_of answer) → Left said lent new
  all_left {answer} {lent} {said} {new} h e f =
      ap (λ (r : List ℕ). (lent, r)) f
      ∙ ap (λ (q : Reply × A). (q.1, sets reply 0 (numbers_of q.0))) e
      ∙ ap (λ (t : Bool). (left t old said.1, replied t reply (numbers_of said.0))) (sym (le-leb _ _ h))

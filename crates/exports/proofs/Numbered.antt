-- Several stands as a list of numbers: the array that is made of them has what the call looks at.
use mathlib.Core.Bool.{Bool}
use mathlib.Core.List.{List}
use mathlib.Core.Path.{◌≡◌, sym, ap, ap₂, ◌∙◌}
use Prim.Native.Nat.{ℕ, ◌/◌, ◌%◌, ◌≤◌}
use native.Mathlib.Omega.{arith}
use borrow.Author.Tests.{eq-eqb, ne_eqb}
use lib.ListN.{length, take}
use lib.Seq.{take_all}
use lib.IntN.{ℤ}
use lib.Ieee.{Float}
use Rattle.limits.specs.Limits.{most_stands}
use Rattle.limits.specs.Reply.{Reply, refused}
use Rattle.limits.specs.declared.Refusal.TheVariants.{Frame}
use Rattle.stand.specs.declared.spot.Stand.{Stand}
use Rattle.stands.specs.Numbered.{stands_of}
use Rattle.stands.proofs.Numbered.{length_of_stands}
use Rattle.sight.specs.Reply.{listed_reply}
use Rattle.morning.specs.declared.Morning.{Morning}
use Rattle.morning.proofs.Together.{only_the_first_are_read}
use Rattle.manopluea.specs.Calls.{in_numbers, list_stands_replies}
use Rattle.exports.specs.Reply.{numbered_replies}
use lib.Dec.{eqb}
use Rattle.std.specs.Prelude.{Option}

module _ (kind : ℕ) (cs : List ℤ) (ts ds : List ℕ) (w : ℕ) (ns : List Float) (reach : Option ℕ) (ceiling : Option ℕ) (table replies : List ℕ) where
  -- what is asked of as many stands as the list has
  abbrev morning : Option ℕ → Option ℕ → Morning
  morning r c = record { setting = w; count = length ns / 3; reach = r; ceiling = c }

  abbrev pub said : Reply × (List ℕ × List ℕ)
  said = numbered_replies (eqb (length ns % 3) 0) kind cs ts ds w ns reach ceiling table replies

  pub not_of_three : (length ns % 3 ≡ 0 → ⊥) → ◌≡◌ {A = Reply × (List ℕ × List ℕ)} (refused Frame, (table, replies)) said
  not_of_three h = ap (λ (b : Bool). numbered_replies b kind cs ts ds w ns reach ceiling table replies) (sym (ne_eqb _ _ h))

  pub of_three : length ns % 3 ≡ 0 → {r : Option ℕ} {c : Option ℕ} → r ≡ reach → c ≡ ceiling → (given : List Stand) → (length ns / 3 ≤ most_stands → take (length ns / 3) given ≡ stands_of ns) → list_stands_replies kind cs ts ds (morning r c) given table replies ≡ said
  of_three h same_reach same_ceiling given made =
      let all : take (length ns / 3) (stands_of ns) ≡ stands_of ns = take_all (length ns / 3) (stands_of ns) (omega (arith, length_of_stands ns)) in
      ap₂ (λ (r : Option ℕ) (c : Option ℕ). list_stands_replies kind cs ts ds (morning r c) given table replies) same_reach same_ceiling
      ∙ ap (in_numbers listed_reply) (only_the_first_are_read kind cs ts ds (morning reach ceiling) given (stands_of ns) table replies (λ few. made few ∙ sym all))
      ∙ ap (λ (b : Bool). numbered_replies b kind cs ts ds w ns reach ceiling table replies) (sym (eq-eqb _ _ h))

-- A ceiling of crossings (document 02, A13): the listing keeps to it, and it alters no list that is given.
use mathlib.Core.Bool.{Bool, true, false, ◌&&◌, ◌||◌, false≢true}
use mathlib.Core.List.{List, [], ◌∷◌}
use mathlib.Core.Path.{◌≡◌, sym, ap, ◌∙◌}
use Prim.Native.Nat.{ℕ, ◌<◌, ◌≤◌}
use native.Mathlib.Omega.{arith}
use native.Mathlib.Decide.{dec_lt}
use borrow.Author.Tests.{eq-eqb, lt-ltb, le-ltb}
use lib.Dec.{eqb}
use lib.ListN.{length}
use lib.IntN.{ℤ}
use Rattle.limits.specs.declared.Refusal.TheVariants as No
use Rattle.sight.specs.Listing.{refuse, listed}
use Rattle.sight.specs.Reply.{listed_reply}
use Rattle.sight.specs.Ceiling.{exceeds, listed_up_to}
use Rattle.sight.specs.declared.view.Query.{Query}
use Rattle.sight.proofs.UpTo.{up_to_it, as_without, no_ceiling}
use Rattle.manopluea.specs.Conditions.{Condition, lowest, list_conditions}
use Rattle.manopluea.specs.Ceilings.{KeepsTo, AsWithout}
use Rattle.manopluea.proofs.Replies.{list_answers}
use Rattle.sight.specs.declared.list.Counts.{Counts}
use Rattle.limits.specs.declared.Refusal.{Refusal}
use Rattle.std.specs.Prelude.{Err, None, Ok, Option, Result, Some}

-- ---- a number that is replied is that of a condition that applies

-- some condition of this number applies
unfoldable applies : ℕ → List Condition → Bool
applies n [] = false
applies n (c ∷ cs) = (eqb c.number n && c.applies) || applies n cs

replied_applies : (n : ℕ) (cs : List Condition) → (lowest cs).0 ≡ n → (n ≡ 0 → ⊥) → applies n cs ≡ true
unfolding applies lowest
replied_applies n [] e some = absurd (some (sym e))
replied_applies n (c ∷ cs) e some = by_test (λ h. replied_applies n cs h some) c.applies e
  where
    later : (t : Bool) → applies n cs ≡ true → ((t && false) || applies n cs) ≡ true
    later true h = h
    later false h = h

    said : Bool → ℕ × ℕ
    said b = elim b [ true ↦ (c.number, c.place) | false ↦ lowest cs ]

    by_test : ((lowest cs).0 ≡ n → applies n cs ≡ true) → (b : Bool) → (said b).0 ≡ n → ((eqb c.number n && b) || applies n cs) ≡ true
    by_test rest true e = ap (λ (t : Bool). (t && true) || applies n cs) (eq-eqb _ _ e)
    by_test rest false e = later (eqb c.number n) (rest e)

module _ (kind : ℕ) (cs : List ℤ) (ts ds : List ℕ) (a : Query) (table : List ℕ) where
  abbrev with_ceiling : Option ℕ → Result Counts Refusal × List ℕ
  with_ceiling c = listed_up_to kind cs ts ds a c table

  abbrev alone : Result Counts Refusal × List ℕ
  alone = listed kind cs ts ds a table

  module _ (c : Option ℕ) {rows k : ℕ} {t : List ℕ} (e : alone ≡ (Ok (record { rows = rows; crossings = k }), t)) where
    when_exceeding : exceeds k c ≡ true → with_ceiling c ≡ (Err No.Ceiling, table)
    when_exceeding b = sym (up_to_it kind cs ts ds a c table (sym e)) ∙ ap (λ (b : Bool). refuse b No.Ceiling table (Ok (record { rows = rows; crossings = k }), t)) b

    when_allowed : exceeds k c ≡ false → with_ceiling c ≡ (Ok (record { rows = rows; crossings = k }), t)
    when_allowed b = sym (up_to_it kind cs ts ds a c table (sym e)) ∙ ap (λ (b : Bool). refuse b No.Ceiling table (Ok (record { rows = rows; crossings = k }), t)) b

  -- rows with a ceiling are rows without one, of no more crossings than the ceiling
  module _ (n : ℕ) {rows k : ℕ} {t : List ℕ} (e : with_ceiling (Some n) ≡ (Ok (record { rows = rows; crossings = k }), t)) where
    without : alone ≡ (Ok (record { rows = rows; crossings = k }), t)
    without = sym (as_without kind cs ts ds a (Some n) table (λ r. rows_no_refusal (sym (ap (λ (l : Result Counts Refusal × List ℕ). l.0) e) ∙ r))) ∙ e
      where
        rows_no_refusal : ◌≡◌ {A = Result Counts Refusal} (Ok (record { rows = rows; crossings = k })) (Err No.Ceiling) → ⊥
        rows_no_refusal p = let z : ◌≡◌ {A = ℕ} 0 1 = cc in omega arith

    few : k ≤ n
    unfolding exceeds
    few = by (dec_lt n k)
      where
        by : Dec (n < k) → k ≤ n
        by (yes more) = absurd (refusal_no_rows (ap (λ (l : Result Counts Refusal × List ℕ). l.0) (sym (when_exceeding (Some n) without (lt-ltb n k more)) ∙ e)))
          where
            refusal_no_rows : ◌≡◌ {A = Result Counts Refusal} (Err No.Ceiling) (Ok (record { rows = rows; crossings = k })) → ⊥
            refusal_no_rows p = let z : ◌≡◌ {A = ℕ} 0 1 = cc in omega arith
        by (no h) = omega arith

  pub the_listing_keeps_to_its_ceiling : (n : ℕ) → KeepsTo kind cs ts ds a table n
  unfolding exceeds
  the_listing_keeps_to_its_ceiling n =
      record {
        exceeding = λ {rows} {k} e more. when_exceeding (Some n) e (lt-ltb n k more);
        allowed = λ {rows} {k} e few. when_allowed (Some n) e (le-ltb n k few);
        refused_before = λ e. sym (up_to_it kind cs ts ds a (Some n) table (sym e));
        otherwise = as_without kind cs ts ds a (Some n) table;
        higher = λ {rows} {k} e m h. when_allowed (Some m) (without n e) (le-ltb m k (omega (arith, few n e, h)));
        none = λ e. no_ceiling kind cs ts ds a table ∙ without n e;
      }

  pub without_a_ceiling_as_before : AsWithout kind cs ts ds a table
  unfolding applies exceeds
  without_a_ceiling_as_before =
      record {
        same = no_ceiling kind cs ts ds a table;
        never = λ e.
            let number_is : (listed_reply (with_ceiling None).0).number ≡ 19 = ap (λ (l : Result Counts Refusal × List ℕ). (listed_reply l.0).number) (no_ceiling kind cs ts ds a table) ∙ ap (λ (r : Result Counts Refusal). (listed_reply r).number) e in
            let lowest_is : (lowest (list_conditions kind cs ts ds a None (length table))).0 ≡ 19 = ap (λ (t : ℕ × ℕ). t.0) (sym (list_answers kind cs ts ds a None table).exact) ∙ number_is in
            false≢true (replied_applies 19 (list_conditions kind cs ts ds a None (length table)) lowest_is (λ z. omega (arith, z)));
      }

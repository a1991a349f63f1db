-- Replies 1 to 7 and 11 of the whole call, way out by way out; and what a call that is granted has.
use mathlib.Core.Bool.{Bool, true, false, ◌||◌}
use mathlib.Core.List.{List}
use mathlib.Core.Path.{◌≡◌, refl, sym, ap, ◌∙◌, subst}
use Prim.Native.Nat.{ℕ, ◌*◌, ◌<◌, ◌≤◌}
use native.Mathlib.Decide.{dec_lt}
use native.Mathlib.Nat.{mul-le-mul}
use native.Mathlib.Omega.{arith}
use borrow.Author.Tests.{lt-ltb, le-ltb, ltb-false}
use lib.Dec.{ltb}
use lib.ListN.{length}
use lib.IntN.{ℤ}
use Rattle.exact.proofs.Truth.{neither_true}
use Rattle.limits.specs.Limits.{most_stands, sized}
use Rattle.limits.specs.declared.Plan.{Plan}
use Rattle.limits.specs.declared.Refusal.{Refusal}
use Rattle.limits.specs.declared.Refusal.TheVariants.{Frame, Size, Setting, Room}
use Rattle.cells.specs.Lists.{corner_count, cell_count, face_count}
use Rattle.cells.specs.Cut.{cells_of}
use Rattle.cells.specs.Check.{framed, refuse_if, checked}
use Rattle.cells.specs.Sound.{Sound}
use Rattle.cells.proofs.Accepted.{passed, accepted_is_sound, accepted_corners, accepted_doors, few_corners}
use Rattle.checking.specs.Sizes.{sizes_of}
use Rattle.checking.proofs.Measures.{refused_likewise, counted_fit}
use Rattle.setting.proofs.Settings.{wrong_for_the_plan}
use Rattle.setting.specs.Setting.{wrong_setting}
use Rattle.grant.specs.Asked.{too_many, sizes_asked, no_room, then_asked, asked, Granted}
use Rattle.draw.specs.declared.Sizes.{Sizes}
use Rattle.std.specs.Prelude.{Err, Ok, Result}

module _ (k : ℕ) (cs : List ℤ) (ts ds : List ℕ) (w n room places : ℕ) where
  -- what is asked after the plan
  abbrev later : Plan → Result Plan Refusal
  later p = refuse_if (wrong_setting w (length ds)) Setting (refuse_if (no_room (corner_count cs) n room places) Room (Ok p))

  -- more than 32 stands are FRAME where the plan's lists are, else SIZE
  many_refused : most_stands < n → Err (too_many (framed k cs ts)) ≡ asked k cs ts ds w n room places
  unfolding asked
  many_refused h =
      ap (λ (b : Bool). refuse_if b (too_many (framed k cs ts)) (then_asked (checked k cs ts ds) later)) (sym (lt-ltb _ _ h))

  module _ (few : n ≤ most_stands) where
    by_few : {r : Result Plan Refusal} → r ≡ then_asked (checked k cs ts ds) later → r ≡ asked k cs ts ds w n room places
    unfolding asked
    by_few e = e ∙ ap (λ (b : Bool). refuse_if b (too_many (framed k cs ts)) (then_asked (checked k cs ts ds) later)) (sym (le-ltb _ _ few))

    pub plan_refused : {r : Refusal} → checked k cs ts ds ≡ Err r → Err r ≡ asked k cs ts ds w n room places
    plan_refused e = by_few (ap (λ (a : Result Plan Refusal). then_asked a later) (sym e))

    module _ {p : Plan} (accepted : checked k cs ts ds ≡ Ok p) where
      by_accepted : {r : Result Plan Refusal} → r ≡ later p → r ≡ asked k cs ts ds w n room places
      by_accepted e = by_few (e ∙ ap (λ (a : Result Plan Refusal). then_asked a later) (sym accepted))

      pub few_numbers : 4 * p.corners * n ≤ 4 * 2048 * 32
      few_numbers = let f : 4 * p.corners ≤ 4 * 2048 = omega (arith, few_corners k cs ts ds accepted) in mul-le-mul f few

      module _ {b : Bool} (is_wrong : b ≡ wrong_setting w p.doors) where
        pub setting_refused : b ≡ true → Err Setting ≡ asked k cs ts ds w n room places
        setting_refused h =
            by_accepted (ap (λ (t : Bool). refuse_if t Setting (refuse_if (no_room (corner_count cs) n room places) Room (Ok p))) (sym (wrong_for_the_plan ds w (accepted_doors k cs ts ds accepted) is_wrong ∙ h)))

        module _ (right : b ≡ false) where
          by_room : {r : Result Plan Refusal} → r ≡ refuse_if (no_room (corner_count cs) n room places) Room (Ok p) → r ≡ asked k cs ts ds w n room places
          by_room e =
              by_accepted (e ∙ ap (λ (t : Bool). refuse_if t Setting (refuse_if (no_room (corner_count cs) n room places) Room (Ok p))) (sym (wrong_for_the_plan ds w (accepted_doors k cs ts ds accepted) is_wrong ∙ right)))

          pub table_too_short : room < 4 * p.corners * n → Err Room ≡ asked k cs ts ds w n room places
          table_too_short h =
              let short : ltb room (4 * corner_count cs * n) ≡ true = lt-ltb _ _ (subst (λ (m : ℕ). room < 4 * m * n) (accepted_corners k cs ts ds accepted) h) in
              by_room (ap (λ (t : Bool). refuse_if (t || ltb places (3 * n)) Room (Ok p)) (sym short))

          module _ (long : 4 * p.corners * n ≤ room) where
            by_places : {r : Result Plan Refusal} → r ≡ refuse_if (ltb places (3 * n)) Room (Ok p) → r ≡ asked k cs ts ds w n room places
            by_places e =
                let enough : ltb room (4 * corner_count cs * n) ≡ false = le-ltb _ _ (subst (λ (m : ℕ). 4 * m * n ≤ room) (accepted_corners k cs ts ds accepted) long) in
                by_room (e ∙ ap (λ (t : Bool). refuse_if (t || ltb places (3 * n)) Room (Ok p)) (sym enough))

            pub too_few_places : places < 3 * n → Err Room ≡ asked k cs ts ds w n room places
            too_few_places h = by_places (ap (λ (t : Bool). refuse_if t Room (Ok p)) (sym (lt-ltb _ _ h)))

            pub granted : 3 * n ≤ places → Ok p ≡ asked k cs ts ds w n room places
            granted h = by_places (ap (λ (t : Bool). refuse_if t Room (Ok p)) (sym (le-ltb _ _ h)))

-- ---- the sizes

module _ (k : ℕ) (cs : List ℤ) (ts ds : List ℕ) (n : ℕ) where
  few_asked : n ≤ most_stands → sizes_asked k cs ts ds n ≡ sizes_of k cs ts ds
  unfolding sizes_asked
  few_asked few = rw (le-ltb _ _ few, sizes_asked)

  many_asked : most_stands < n → sizes_asked k cs ts ds n ≡ Err (too_many (framed k cs ts))
  unfolding sizes_asked
  many_asked h = rw (lt-ltb _ _ h, sizes_asked)

  -- lists of which the sizes are refused are refused for SIZE just where they are framed
  frame_or_size : {r : Refusal} → sizes_of k cs ts ds ≡ Err r → r ≡ too_many (framed k cs ts)
  unfolding sizes_of
  frame_or_size {r} e = by_tests (framed k cs ts) refl (sized (corner_count cs) (cell_count (cells_of k ts)) (length ds)) refl
    where
      by_tests : (a : Bool) → framed k cs ts ≡ a → (b : Bool) → sized (corner_count cs) (cell_count (cells_of k ts)) (length ds) ≡ b → r ≡ too_many (framed k cs ts)
      by_tests true g true h =
          let is : ◌≡◌ {A = Result Sizes Refusal} (Ok (record { cells = cell_count (cells_of k ts); faces = face_count (cells_of k ts) })) (Err r) = rw (g, h, sizes_of) at e in
          let z : ◌≡◌ {A = ℕ} 0 1 = cc in
          absurd (omega arith)
      by_tests true g false h =
          let is : ◌≡◌ {A = Result Sizes Refusal} (Err Size) (Err r) = rw (g, h, sizes_of) at e in
          let same : Size ≡ r = cc in
          sym same ∙ ap too_many (sym g)
      by_tests false g b h =
          let is : ◌≡◌ {A = Result Sizes Refusal} (Err Frame) (Err r) = rw (g, sizes_of) at e in
          let same : Frame ≡ r = cc in
          sym same ∙ ap too_many (sym g)

  module _ {s : Result Sizes Refusal} (is_s : s ≡ sizes_of k cs ts ds) where
    -- FRAME and SIZE of the plan's lists are those of the call
    pub lists_refused : {r : Refusal} → s ≡ Err r → Err r ≡ sizes_asked k cs ts ds n
    lists_refused {r} e = by_count (dec_lt most_stands n)
      where
        by_count : Dec (most_stands < n) → Err r ≡ sizes_asked k cs ts ds n
        by_count (yes h) = ap Err (frame_or_size (sym is_s ∙ e)) ∙ sym (many_asked h)
        by_count (no h) = sym e ∙ is_s ∙ sym (few_asked (omega arith))

    module _ {y : Sizes} (e : s ≡ Ok y) where
      pub too_many_asked : most_stands < n → Err Size ≡ sizes_asked k cs ts ds n
      too_many_asked h = ap (λ (b : Bool). Err (too_many b)) (sym (counted_fit k cs ts ds is_s e).in_frame) ∙ sym (many_asked h)

      pub counted : n ≤ most_stands → Ok y ≡ sizes_asked k cs ts ds n
      counted few = sym e ∙ is_s ∙ sym (few_asked few)

  -- ---- what the sizes say

  module _ {s : Result Sizes Refusal} (is_s : s ≡ sizes_asked k cs ts ds n) where
    pub sizes_refused : {r : Refusal} → s ≡ Err r → (w room places : ℕ) → Err r ≡ asked k cs ts ds w n room places
    sizes_refused {r} e w room places = by_count (dec_lt most_stands n)
      where
        by_count : Dec (most_stands < n) → Err r ≡ asked k cs ts ds w n room places
        by_count (yes h) =
            let is : ◌≡◌ {A = Result Sizes Refusal} (Err r) (Err (too_many (framed k cs ts))) = sym e ∙ is_s ∙ many_asked h in
            let same : r ≡ too_many (framed k cs ts) = cc in
            ap Err same ∙ many_refused k cs ts ds w n room places h
        by_count (no h) =
            let few : n ≤ most_stands = omega arith in
            plan_refused k cs ts ds w n room places few (sym (refused_likewise k cs ts ds (is_s ∙ few_asked few) e))

    -- the sizes are those of the lists, and the stands are not too many
    pub lists_counted : {y : Sizes} → s ≡ Ok y → (sizes_of k cs ts ds ≡ Ok y) × (n ≤ most_stands)
    lists_counted {y} e = by_count (dec_lt most_stands n)
      where
        by_count : Dec (most_stands < n) → (sizes_of k cs ts ds ≡ Ok y) × (n ≤ most_stands)
        by_count (yes h) =
            let is : ◌≡◌ {A = Result Sizes Refusal} (Ok y) (Err (too_many (framed k cs ts))) = sym e ∙ is_s ∙ many_asked h in
            let z : ◌≡◌ {A = ℕ} 0 1 = cc in
            absurd (omega arith)
        by_count (no h) =
            let few : n ≤ most_stands = omega arith in
            (sym (few_asked few) ∙ sym is_s ∙ e, few)

-- an answer that accepts grants
pub grants : (k : ℕ) (cs : List ℤ) (ts ds : List ℕ) {w n room places : ℕ} {r : Result Plan Refusal} {p : Plan} → r ≡ asked k cs ts ds w n room places → r ≡ Ok p → Granted k cs ts ds w n room places
grants k cs ts ds {p = p} is e = record { plan = p; accepted = sym is ∙ e }

-- what a call that is granted has
pub record Grant (k : ℕ) (cs : List ℤ) (ts ds : List ℕ) (w n room places : ℕ) : Type 0 where
  pub plan : Plan
  pub plan_accepted : checked k cs ts ds ≡ Ok plan
  pub sound : Sound cs (cells_of k ts) ds
  pub setting_right : wrong_setting w (length ds) ≡ false
  pub few_stands : n ≤ most_stands
  pub table_long : 4 * corner_count cs * n ≤ room
  pub replies_long : 3 * n ≤ places

module _ (k : ℕ) (cs : List ℤ) (ts ds : List ℕ) (w n room places : ℕ) where
  pub grant_says : Granted k cs ts ds w n room places → Grant k cs ts ds w n room places
  unfolding asked
  grant_says g =
      let t₁ = passed (ltb most_stands n) (too_many (framed k cs ts)) _ g.accepted in
      by_plan (ltb-false _ _ t₁.0) (checked k cs ts ds) refl t₁.1
    where
      by_tests : n ≤ most_stands → (p : Plan) → checked k cs ts ds ≡ Ok p → later k cs ts ds w n room places p ≡ Ok g.plan → Grant k cs ts ds w n room places
      by_tests few p h e =
          let t₂ = passed (wrong_setting w (length ds)) Setting _ e in
          let t₃ = passed (no_room (corner_count cs) n room places) Room _ t₂.1 in
          let enough = neither_true (ltb room (4 * corner_count cs * n)) (ltb places (3 * n)) t₃.0 in
          record {
            plan = p;
            plan_accepted = h;
            sound = (accepted_is_sound k cs ts ds p h).0;
            setting_right = t₂.0;
            few_stands = few;
            table_long = ltb-false _ _ enough.0;
            replies_long = ltb-false _ _ enough.1;
          }

      by_plan : n ≤ most_stands → (a : Result Plan Refusal) → checked k cs ts ds ≡ a → then_asked a (later k cs ts ds w n room places) ≡ Ok g.plan → Grant k cs ts ds w n room places
      by_plan few (Ok p) h e = by_tests few p h e
      by_plan few (Err r) h e = absurd (never e)
        where
          never : ◌≡◌ {A = Result Plan Refusal} (Err r) (Ok g.plan) → ⊥
          never e = let z : ◌≡◌ {A = ℕ} 0 1 = cc in omega arith

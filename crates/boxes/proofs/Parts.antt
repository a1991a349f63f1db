-- The part of a list that is picked: each number is stored behind the part, and counted in where its box reaches.
use mathlib.Core.Bool.{Bool, true, false}
use mathlib.Core.List.{List}
use mathlib.Core.Path.{◌≡◌, sym, ap, ◌∙◌, subst}
use Prim.Native.Nat.{ℕ, ◌+◌, ◌*◌, ◌/◌, ◌≤◌, ◌<◌}
use native.Mathlib.Decide.{dec_lt}
use native.Mathlib.Omega.{arith}
use lib.IntN.{ℤ}
use lib.ListN.{length, get_or, set}
use lib.Seq.{get_or-set_same, get_or-set_other}
use Rattle.std.proofs.lemmas.List.{get_or_default}
use Rattle.cells.proofs.Least.{not_both}
use Rattle.boxes.specs.Boxes.{box_at}
use Rattle.boxes.specs.Parts.{reaching, Listed, Among, Picked}
use Rattle.boxes.specs.declared.Bounds.{Bounds}
use Rattle.boxes.specs.declared.part.Line.{Line}

-- the box of a cell that was taken from a list stands in the table
pub box_there : {xs : List ℕ} (bs : List ℤ) → Listed (length bs / 4) xs → {c i : ℕ} → i < length xs → c ≡ get_or xs i c → 4 * c + 4 ≤ length bs
box_there {xs} bs L {c} {i} k e = omega (arith, L.exists i k, e, get_or_default xs i c 0 k)

-- what is among some is among more
further : {xs : List ℕ} {n n' c : ℕ} → n ≤ n' → Among xs n c → Among xs n' c
further h a = record { place = a.place; before = omega (arith, a.before); stands = a.stands }

-- a store behind them leaves them
undisturbed : {ps : List ℕ} {k x : ℕ} (c : ℕ) → Among ps k x → Among (set ps k c) k x
undisturbed {ps} {k} c a =
    record { place = a.place; before = a.before; stands = get_or-set_other ps k a.place c 0 (λ e. omega (arith, e, a.before)) ∙ a.stands }

module _ {bs : List ℤ} {l : Line} {xs : List ℕ} where
  module _ {i k : ℕ} {ps : List ℕ} (P : Picked bs l xs i ps k) where
    -- what was picked before is of the list still
    listed_before : (j : ℕ) → j < k → Among xs (i + 1) (get_or (set ps k (get_or xs i 0)) j 0)
    listed_before j h =
        subst (Among xs (i + 1)) (sym (get_or-set_other ps k j (get_or xs i 0) 0 (λ e. omega (arith, e)))) (further (omega arith) (P.of_the_list j h))

    -- the number at i, whose box reaches, is counted in
    pub picked : k < length ps → {k' : ℕ} → k' ≡ k + 1 → Picked bs l xs (i + 1) (set ps k (get_or xs i 0)) k'
    picked room is_k = subst (Picked bs l xs (i + 1) (set ps k (get_or xs i 0))) (sym is_k) counted_in
      where
        c : ℕ
        c = get_or xs i 0

        by_place : (j : ℕ) → j < k + 1 → Dec (j < k) → Among xs (i + 1) (get_or (set ps k c) j 0)
        by_place j h (yes m) = listed_before j m
        by_place j h (no m) =
            let here : k ≡ j = omega arith in
            record { place = i; before = omega arith; stands = sym (get_or-set_same ps k c 0 room) ∙ ap (λ (n : ℕ). get_or (set ps k c) n 0) here }

        by_number : (j : ℕ) → j < i + 1 → reaching (box_at bs (get_or xs j 0)) l ≡ true → Dec (j < i) → Among (set ps k c) (k + 1) (get_or xs j 0)
        by_number j h e (yes m) = further (omega arith) (undisturbed c (P.each j m e))
        by_number j h e (no m) =
            let here : i ≡ j = omega arith in
            record { place = k; before = omega arith; stands = get_or-set_same ps k c 0 room ∙ ap (λ (n : ℕ). get_or xs n 0) here }

        counted_in : Picked bs l xs (i + 1) (set ps k c) (k + 1)
        counted_in =
            record {
              at_most = omega (arith, P.at_most);
              of_the_list = λ j h. by_place j h (dec_lt j k);
              each = λ j h e. by_number j h e (dec_lt j i);
            }

    -- the number at i, whose box does not reach, is not
    pub passed_over : {b : Bounds} {t : Bool} → b ≡ box_at bs (get_or xs i 0) → t ≡ reaching b l → t ≡ false → {k' : ℕ} → k' ≡ k → Picked bs l xs (i + 1) (set ps k (get_or xs i 0)) k'
    passed_over is_b is_t falls is_k = subst (Picked bs l xs (i + 1) (set ps k (get_or xs i 0))) (sym is_k) not_counted
      where
        f : reaching (box_at bs (get_or xs i 0)) l ≡ false
        f = ap (λ (b : Bounds). reaching b l) (sym is_b) ∙ sym is_t ∙ falls

        by_number : (j : ℕ) → j < i + 1 → reaching (box_at bs (get_or xs j 0)) l ≡ true → Dec (j < i) → Among (set ps k (get_or xs i 0)) k (get_or xs j 0)
        by_number j h e (yes m) = undisturbed (get_or xs i 0) (P.each j m e)
        by_number j h e (no m) =
            let here : j ≡ i = omega arith in
            absurd (not_both (subst (λ (n : ℕ). reaching (box_at bs (get_or xs n 0)) l ≡ true) here e) f)

        not_counted : Picked bs l xs (i + 1) (set ps k (get_or xs i 0)) k
        not_counted =
            record {
              at_most = omega (arith, P.at_most);
              of_the_list = listed_before;
              each = λ j h e. by_number j h e (dec_lt j i);
            }

-- Lent memory that is written from its beginning: what stands there then, and what is kept. Runs of stores one behind the other, and in a part that is
-- lent on.
use mathlib.Core.List.{List, [], ◌∷◌, ◌++◌, append-nil}
use mathlib.Core.Path.{◌≡◌, refl, sym, ap, ◌∙◌}
use Prim.Native.Nat.{ℕ, suc, ◌+◌, ◌-◌, ◌≤◌}
use native.Mathlib.Nat.{zero-add, add-zero, add-suc, suc-add}
use native.Mathlib.Omega.{arith}
use borrow.Author.Rules.{part_to_end}
use borrow.Rule.Slice.PartMut.{put_mid}
use lib.ListN.{length, set, take, drop, length-drop, take-append-drop, drop_of_length-le}
use lib.Seq.{sets, sets-eq, take_at, drop_at, length-take-le}

module _ {ℓ} {A : Type ℓ} (old new : List A) (n : ℕ) (long : length new ≡ n) (room : n ≤ length old) where
  pub written_from_the_beginning : sets old 0 new ≡ new ++ drop n old
  written_from_the_beginning =
      let to_n : 0 + length new ≡ n = omega arith in
      sets-eq new old 0 (omega arith) ∙ ap (λ (k : ℕ). new ++ drop k old) to_n

  pub first_is_new : take n (sets old 0 new) ≡ new
  first_is_new = ap (take n) written_from_the_beginning ∙ take_at new (drop n old) n long

  pub rest_is_kept : drop n (sets old 0 new) ≡ drop n old
  rest_is_kept = ap (drop n) written_from_the_beginning ∙ drop_at new (drop n old) n long

-- `now` is `old` with `new` at its beginning: `new` stands first, and what lies beyond is kept
pub record Leaves {ℓ} {A : Type ℓ} (old new now : List A) : Type ℓ where
  pub first : take (length new) now ≡ new
  pub beyond : drop (length new) now ≡ drop (length new) old

pub written_leaves {ℓ} : {A : Type ℓ} (old new : List A) → length new ≤ length old → Leaves old new (sets old 0 new)
written_leaves old new room =
    record { first = first_is_new old new (length new) refl room; beyond = rest_is_kept old new (length new) refl room }

module _ {ℓ} {A : Type ℓ} where
  -- a second run that begins where the first ends
  pub sets_append : (l : List A) (i : ℕ) (a b : List A) → sets (sets l i a) (i + length a) b ≡ sets l i (a ++ b)
  sets_append l i [] b = rw add-zero
  sets_append l i (x ∷ a) b = rw (add-suc i (length a), ← suc-add i (length a)) (sets_append (set l i x) (suc i) a b)

  pub sets_then : (l : List A) (i j : ℕ) (a b : List A) → i + length a ≡ j → sets (sets l i a) j b ≡ sets l i (a ++ b)
  sets_then l i j a b e = rw (← e) (sets_append l i a b)

  -- a run behind what stands first
  set_after : (p q : List A) (i : ℕ) (x : A) → set (p ++ q) (length p + i) x ≡ p ++ set q i x
  set_after [] q i x = rw (zero-add i) refl
  set_after (y ∷ p) q i x = rw (suc-add (length p) i) (ap (λ (l : List A). y ∷ l) (set_after p q i x))

  sets_after : (p q vs : List A) (i : ℕ) → sets (p ++ q) (length p + i) vs ≡ p ++ sets q i vs
  sets_after p q [] i = refl
  sets_after p q (x ∷ vs) i =
      ap (λ (l : List A). sets l (suc (length p + i)) vs) (set_after p q i x)
      ∙ ap (λ (n : ℕ). sets (p ++ set q i x) n vs) (sym (add-suc (length p) i))
      ∙ sets_after p (set q i x) vs (suc i)

-- the part from a on, lent on, written from its beginning and put back, is the whole written from a on
pub part_put_back : {A : Type 0} (xs vs : List A) (a : ℕ) → a ≤ length xs → {ys : List A} → ys ≡ sets (take (length xs - a) (drop a xs)) 0 vs → put_mid a (length xs - a) xs ys ≡ sets xs a vs
part_put_back {A} xs vs a h {ys} e =
    let front : length (take a xs) + 0 ≡ a = add-zero (length (take a xs)) ∙ length-take-le a xs h in
    let none : drop (length xs - a) (drop a xs) ≡ [] = drop_of_length-le (drop a xs) {i = length xs - a} (omega (arith, length-drop a xs)) in
    ap (λ (l : List A). take a xs ++ (ys ++ l)) none
    ∙ ap (λ (l : List A). take a xs ++ l) (append-nil ys ∙ e ∙ ap (λ (l : List A). sets l 0 vs) (part_to_end xs a))
    ∙ sym (sets_after (take a xs) (drop a xs) vs 0)
    ∙ ap (λ (n : ℕ). sets (take a xs ++ drop a xs) n vs) front
    ∙ ap (λ (l : List A). sets l a vs) (take-append-drop a xs)

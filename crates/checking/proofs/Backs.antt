-- The table of the faces on the other side, and the search for a wrong face, face by face.
use mathlib.Core.Bool.{true, false}
use mathlib.Core.List.{List}
use mathlib.Core.Path.{◌≡◌, refl, ◌∙◌, subst}
use Prim.Native.Nat.{ℕ, ◌+◌, ◌<◌}
use native.Mathlib.Decide.{dec_lt}
use native.Mathlib.Omega.{arith}
use lib.IntN.{ℤ}
use lib.ListN.{length, get_or, set, length-set}
use lib.Seq.{get_or-set_same, get_or-set_other}
use Rattle.std.specs.Prelude.{Some, None}
use Rattle.limits.specs.Limits.{wall}
use Rattle.cells.specs.Least.{least, before}
use Rattle.cells.specs.Lists.{Cells, face_count, neighbour, back}
use Rattle.cells.specs.Check.{wrong_neighbour}
use Rattle.cells.specs.Sound.{Sound}
use Rattle.cells.proofs.Least.{Seeks, seek_goes_on, seek_found, seek_ends}
use Rattle.cells.proofs.Searches.{at_the_least, past_the_end}
use Rattle.cells.specs.Backed.{Backed}
use Rattle.boxes.specs.Boxes.{Boxed}
use Rattle.checking.specs.Backed.{BackedBelow}

module _ {T : Cells} {bs : List ℕ} where
  one_more : {f : ℕ} {now : List ℕ} → BackedBelow T f bs → length now ≡ face_count T → ((k : ℕ) → k < f → get_or now k 0 ≡ get_or bs k 0) → ((neighbour T f ≡ wall → ⊥) → get_or now f 0 ≡ back T f) → BackedBelow T (f + 1) now
  one_more {f} {now} b h kept here = record { whole = h; stands = λ k l. before_or_at k l (dec_lt k f) }
    where
      before_or_at : (k : ℕ) → k < f + 1 → Dec (k < f) → (neighbour T k ≡ wall → ⊥) → get_or now k 0 ≡ back T k
      before_or_at k l (yes less) = λ free. kept k less ∙ b.stands k less free
      before_or_at k l (no not_less) =
          let same : k ≡ f = omega arith in
          rw same here

  pub wall_backed : {f : ℕ} → BackedBelow T f bs → neighbour T f ≡ wall → BackedBelow T (f + 1) bs
  wall_backed b w = one_more b b.whole (λ k l. refl) (λ free. absurd (free w))

  pub face_backed : {f g : ℕ} → BackedBelow T f bs → f < face_count T → g ≡ back T f → BackedBelow T (f + 1) (set bs f g)
  face_backed {f} {g} b h e =
      let there : f < length bs = omega (arith, b.whole) in
      one_more b (length-set bs f g ∙ b.whole) (λ k l. get_or-set_other bs f k g 0 (λ same. omega arith)) (λ free. get_or-set_same bs f g 0 there ∙ e)

  all_backed : {n : ℕ} → BackedBelow T n bs → n ≡ face_count T → Backed T bs
  all_backed b e = record { whole = b.whole; stands = λ f l. b.stands f (omega arith) }

-- ---- no face before face f is wrong, and those on their other sides are noted

pub record Swept (T : Cells) (bs : List ℕ) (f : ℕ) : Type 0 where
  pub seeks : Seeks (wrong_neighbour T) (face_count T) f
  pub backed : BackedBelow T f bs

module _ {T : Cells} {bs : List ℕ} {f : ℕ} (w : Swept T bs f) where
  pub sweep_found : f < face_count T → wrong_neighbour T f ≡ true → Some f ≡ before (face_count T) (least (wrong_neighbour T) (face_count T) 0)
  sweep_found l e = at_the_least (seek_found w.seeks l e) l

  pub sweep_on : f < face_count T → wrong_neighbour T f ≡ false → {now : List ℕ} → BackedBelow T (f + 1) now → Swept T now (f + 1)
  sweep_on l e b = record { seeks = seek_goes_on w.seeks l e; backed = b }

  pub sweep_ends : f ≡ face_count T → (None ≡ before (face_count T) (least (wrong_neighbour T) (face_count T) 0)) × Backed T bs
  sweep_ends e = (past_the_end (omega (arith, seek_ends w.seeks (omega arith))), all_backed w.backed e)

-- what is said of tables is said of the cells they stand for
pub noted_of : {cs : List ℤ} {S T : Cells} {ds bs : List ℕ} {xs : List ℤ} → S ≡ T → (Sound cs S ds → (Backed S bs × Boxed cs S xs)) → Sound cs T ds → (Backed T bs × Boxed cs T xs)
noted_of {cs} {S} {T} {ds} {bs} {xs} e told = subst (λ (T : Cells). Sound cs T ds → (Backed T bs × Boxed cs T xs)) e told

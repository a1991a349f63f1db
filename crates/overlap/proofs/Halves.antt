-- A list taken apart by a line: what is settled for both parts is settled for the list. What is settled for all cells is the least of any pair.
use mathlib.Core.Bool.{Bool, true, false}
use mathlib.Core.List.{List}
use mathlib.Core.Logic.{inl, inr}
use mathlib.Core.Path.{◌≡◌, refl, sym, ◌∙◌, subst}
use Prim.Native.Nat.{ℕ, ◌<◌, ◌≤◌}
use native.Mathlib.Decide.{ℕ_discrete}
use native.Mathlib.Omega.{arith}
use lib.IntN.{ℤ}
use lib.ListN.{length, get_or, take}
use lib.Seq.{length-take-le, get_or-take}
use Rattle.cells.specs.Lists.{Cells, cell_count}
use Rattle.cells.specs.Check.{overlapping, in_a_pair, first_overlapping}
use Rattle.cells.proofs.Least.{least_is, least_is_none}
use Rattle.apart.proofs.Pairs.{in_a_pair_with}
use Rattle.boxes.specs.Boxes.{Boxed, box_at}
use Rattle.boxes.specs.Parts.{reaching, Listed, Picked}
use Rattle.boxes.specs.declared.part.Line.{Line}
use Rattle.overlap.specs.Search.{Ready, Passes, Settles}
use Rattle.overlap.proofs.Settled.{found_then}
use Rattle.overlap.proofs.Boxed.{OneSide, overlap_meets, on_one_side}

-- ---- the part that was picked

module _ {bs : List ℤ} {l : Line} {xs ps : List ℕ} {k : ℕ} (room : length xs ≤ length ps) (picked : Picked bs l xs (length xs) ps k) where
  pub picked_length : length (take k ps) ≡ k
  picked_length = length-take-le k ps (omega (arith, room, picked.at_most))

  -- what is settled for the part is settled for two cells of the list that both reach to the side
  pub settled_there : {cs : List ℤ} {T : Cells} {best r : ℕ} → Settles cs T (take k ps) best r → (i j : ℕ) → i < length xs → j < length xs → reaching (box_at bs (get_or xs i 0)) l ≡ true → reaching (box_at bs (get_or xs j 0)) l ≡ true → Passes cs T r (get_or xs i 0) (get_or xs j 0)
  settled_there {cs} {T} {r = r} settled i j h m u v =
      let a = picked.each i h u in
      let b = picked.each j m v in
      let before : a.place < length (take k ps) = omega (arith, picked_length, a.before) in
      let also : b.place < length (take k ps) = omega (arith, picked_length, b.before) in
      subst (λ (c : ℕ). Passes cs T r c (get_or xs j 0)) (get_or-take k ps a.place 0 a.before ∙ a.stands)
      (subst (λ (e : ℕ). Passes cs T r (get_or (take k ps) a.place 0) e) (get_or-take k ps b.place 0 b.before ∙ b.stands) (settled.passes a.place b.place before also))

-- ---- one search after another

-- both sides of a line
module _ {cs : List ℤ} {T : Cells} (R : Ready cs T) {bs : List ℤ} (boxed : Boxed cs T bs) {xs : List ℕ} (listed : Listed (cell_count T) xs) (u : Bool) (s : ℤ) where
  pub settled_by_parts : {ps qs : List ℕ} {k l best r t : ℕ}
      → length xs ≤ length ps → Picked bs (record { upright = u; twice = s; beyond = false }) xs (length xs) ps k → Settles cs T (take k ps) best r
      → length xs ≤ length qs → Picked bs (record { upright = u; twice = s; beyond = true }) xs (length xs) qs l → Settles cs T (take l qs) r t
      → Settles cs T xs best t
  settled_by_parts {t = t} room before first room' beyond second =
      record { found = found_then first.found second.found; passes = λ i j h k o. by_side i j h k o (one i j h k o) }
    where
      one : (i j : ℕ) → i < length xs → j < length xs → overlapping cs T (get_or xs i 0) (get_or xs j 0) ≡ true → OneSide (box_at bs (get_or xs i 0)) (box_at bs (get_or xs j 0)) u s
      one i j h k o =
          let m = overlap_meets R boxed (get_or xs i 0) (get_or xs j 0) (listed.exists i h) (listed.exists j k) o in
          on_one_side _ _ u s m.0.0 m.0.1 m.1.0 m.1.1

      by_side : (i j : ℕ) → i < length xs → j < length xs → overlapping cs T (get_or xs i 0) (get_or xs j 0) ≡ true → OneSide (box_at bs (get_or xs i 0)) (box_at bs (get_or xs j 0)) u s → (t ≤ get_or xs i 0) × (t ≤ get_or xs j 0)
      by_side i j h k o (inl both) =
          let p = settled_there room before first i j h k both.0 both.1 o in
          (omega (arith, p.0, second.found.no_greater), omega (arith, p.1, second.found.no_greater))
      by_side i j h k o (inr both) = settled_there room' beyond second i j h k both.0 both.1 o

-- ---- all cells

module _ (cs : List ℤ) (T : Cells) {xs : List ℕ} where
  -- where every cell is listed, what is settled is the least cell of any pair
  pub settled_is_least : ((c : ℕ) → c < cell_count T → (c < length xs) × (get_or xs c 0 ≡ c)) → {r : ℕ} → Settles cs T xs (cell_count T) r → r ≡ first_overlapping cs T
  settled_is_least all {r} settled = by_place (ℕ_discrete r (cell_count T))
    where
      before : (d : ℕ) → d < r → d < cell_count T → (b : Bool) → in_a_pair cs T d ≡ b → in_a_pair cs T d ≡ false
      before d h k false t = t
      before d h k true t =
          let found = in_a_pair_with cs T d t in
          let here = all d k in
          let there = all found.0 found.1 in
          let told : overlapping cs T (get_or xs d 0) (get_or xs found.0 0) ≡ true = rw (here.1, there.1) found.2 in
          absurd (omega (arith, (settled.passes d found.0 here.0 there.0 told).0, here.1))

      none_before : (d : ℕ) → d < r → in_a_pair cs T d ≡ false
      none_before d h = before d h (omega (arith, settled.found.no_greater)) (in_a_pair cs T d) refl

      by_place : Dec (r ≡ cell_count T) → r ≡ first_overlapping cs T
      by_place (yes e) =
          e ∙ sym (least_is_none (in_a_pair cs T) (cell_count T) 0 (λ d h k. none_before d (omega (arith, e))) ∙ omega arith)
      by_place (no e) =
          least_is (in_a_pair cs T) (cell_count T) r (omega (arith, settled.found.no_greater)) (settled.found.in_one e) none_before

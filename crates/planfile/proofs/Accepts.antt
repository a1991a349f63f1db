-- What is known of lists that the plan check accepts, and of a reply that asks for room.
use mathlib.Core.Bool.{Bool, true, false, not}
use mathlib.Core.List.{List}
use mathlib.Core.Path.{◌≡◌, refl, ap}
use Prim.Native.Nat.{ℕ, ◌*◌, ◌≤◌}
use native.Mathlib.Omega.{arith}
use borrow.Author.Tests.{not-false}
use lib.ListN.{length}
use lib.IntN.{ℤ}
use Rattle.limits.specs.Limits.{most_corners, most_cells, most_doors}
use Rattle.cells.specs.Cut.{cells_of}
use Rattle.cells.specs.Check.{framed, checked}
use Rattle.cells.specs.Sound.{Sound}
use Rattle.limits.specs.declared.Plan.{Plan}
use Rattle.limits.specs.declared.Refusal.{Refusal}
use Rattle.limits.specs.declared.Refusal.TheVariants.{Frame}
use Rattle.cells.proofs.Accepted.{passed, accepted_is_sound}
use Rattle.cells.proofs.Plans.{counts}
use Rattle.checking.proofs.Measures.{whole_in_frame}
use Rattle.planfile.specs.Calls.{given_room, told}
use Rattle.planfile.proofs.CellLists.{Whole, by_kind, few_numbers}
use Rattle.std.specs.Prelude.{Err, Ok, Result}
use Rattle.limits.proofs.Handed.{ok_same}
use Rattle.planfile.specs.declared.ReadPlan.{ReadPlan}

-- a refusal does not ask for room
pub refused_stays : (b : Bool) (r : Refusal) → given_room b (Err r) ≡ Err r
refused_stays true r = refl
refused_stays false r = refl

-- what is accepted where there is room was accepted
pub roomed : (b : Bool) (c : Result Plan Refusal) {p : Plan} → given_room b c ≡ Ok p → c ≡ Ok p
roomed true (Ok q) e = e
roomed true (Err r) e = e
roomed false (Ok q) e = let z : ◌≡◌ {A = ℕ} 0 1 = cc in absurd (omega arith)
roomed false (Err r) e = e

-- and there was room
pub had_room : (b : Bool) (c : Result Plan Refusal) {p : Plan} → given_room b c ≡ Ok p → b ≡ true
had_room true c e = refl
had_room false (Ok q) e = let z : ◌≡◌ {A = ℕ} 0 1 = cc in absurd (omega arith)
had_room false (Err r) e = let z : ◌≡◌ {A = ℕ} 0 1 = cc in absurd (omega arith)

-- the reader's answer is an acceptance where the lists were accepted, and it has their list of cells' kind and length
pub was_told : (k m : ℕ) (c : Result Plan Refusal) {p : Plan} {j n : ℕ} → told k m c ≡ Ok (record { counts = p; kind = j; numbers = n }) → (c ≡ Ok p) × ((k ≡ j) × (m ≡ n))
was_told k m (Ok q) e =
    let same = ok_same e in
    (ap (λ (r : ReadPlan). Ok r.counts) same, (ap (λ (r : ReadPlan). r.kind) same, ap (λ (r : ReadPlan). r.numbers) same))
was_told k m (Err r) e = let z : ◌≡◌ {A = ℕ} 0 1 = cc in absurd (omega arith)

module _ (k : ℕ) (cs : List ℤ) (ts ds : List ℕ) {p : Plan} (ok : checked k cs ts ds ≡ Ok p) where
  -- an accepted plan's list of cells is cut into whole cells
  pub accepted_is_whole : Whole k ts
  unfolding checked
  accepted_is_whole =
      by_kind k ts (whole_in_frame k cs ts (not-false (framed k cs ts) (passed (not (framed k cs ts)) Frame _ ok).0))

  pub accepted_sound : Sound cs (cells_of k ts) ds
  accepted_sound = (accepted_is_sound k cs ts ds p ok).0

  -- and its lists are short
  pub small : (length cs ≤ 2 * most_corners) × ((length ts ≤ 17 * most_cells) × (length ds ≤ most_doors))
  small =
      let sound = accepted_sound in
      let n = counts _ _ _ sound.in_size in
      let m = few_numbers accepted_is_whole in
      (omega arith, (omega arith, omega arith))

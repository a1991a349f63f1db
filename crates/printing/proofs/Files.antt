-- A plan file read into lists that have room for the largest plan: what was refused is refused by the listing, what was accepted is listed.
use mathlib.Core.Bool.{Bool, true, false}
use mathlib.Core.List.{List}
use mathlib.Core.Path.{◌≡◌, refl, sym, ap, ap₂, ◌∙◌}
use Prim.Native.Nat.{ℕ, ◌*◌, ◌/◌, ◌≤◌}
use native.Mathlib.Omega.{arith}
use borrow.Author.Tests.{le-leb}
use lib.ListN.{length, take}
use lib.Seq.{sets, length-sets}
use lib.IntN.{ℤ}
use Rattle.exact.proofs.Lent.{first_is_new}
use Rattle.limits.specs.Limits.{most_corners, most_cells, most_doors}
use Rattle.cells.specs.Check.{checked}
use Rattle.limits.specs.declared.Plan.{Plan}
use Rattle.limits.specs.declared.Refusal.{Refusal}
use Rattle.limits.specs.declared.Refusal.TheVariants as R
use Rattle.cells.proofs.Accepted.{accepted_is_sound, accepted_corners, accepted_doors}
use Rattle.records.specs.Record.{framed}
use Rattle.planfile.specs.File.{kind_in, corners_in, cells_in, doors_in}
use Rattle.planfile.specs.Calls.{given_room, has_room, file_checked, told, left_by, read}
use Rattle.planfile.proofs.Accepts.{refused_stays, was_told, small}
use Rattle.planfile.proofs.Decodes.{unframed, by_its_lists}
use Rattle.stand.specs.declared.spot.Stand.{Stand}
use Rattle.sight.specs.Listing.{listed}
use Rattle.sight.specs.Ceiling.{listed_up_to}
use Rattle.sight.proofs.UpTo.{no_ceiling}
use Rattle.sight.proofs.Views.{plan_refused, listing_refused}
use Rattle.printing.specs.Print.{asks, file_listed}
use Rattle.sight.specs.declared.list.Counts.{Counts}
use Rattle.planfile.specs.declared.ReadPlan.{ReadPlan}
use Rattle.std.specs.Prelude.{Err, None, Ok, Result}

module _ (file : List ℕ) (w : ℕ) (s : Stand) (table : List ℕ) where
  pub framed_is_listed : framed file ≡ true → file_listed file w s table ≡ listed (kind_in file) (corners_in file) (cells_in file) (doors_in file) (asks w s) table
  unfolding file_listed
  framed_is_listed fr = rw (fr, file_listed) refl

  pub unframed_is_refused : framed file ≡ false → file_listed file w s table ≡ (Err R.Frame, table)
  unfolding file_listed
  unframed_is_refused fr = rw (fr, file_listed) refl

module _ (file : List ℕ) (cs₀ : List ℤ) (ts₀ ds₀ : List ℕ) (room : (2 * most_corners ≤ length cs₀) × ((17 * most_cells ≤ length ts₀) × (most_doors ≤ length ds₀))) where
  abbrev reply : Result Plan Refusal
  reply = file_checked file (length cs₀) (length ts₀) (length ds₀)

  abbrev check_of_lists : Result Plan Refusal
  check_of_lists = checked (kind_in file) (corners_in file) (cells_in file) (doors_in file)

  -- lists that the check accepts have room
  has_all : {p : Plan} → check_of_lists ≡ Ok p → has_room (corners_in file) (cells_in file) (doors_in file) (length cs₀) (length ts₀) (length ds₀) ≡ true
  has_all ok =
      let short = small (kind_in file) (corners_in file) (cells_in file) (doors_in file) ok in
      let i : length (corners_in file) ≤ length cs₀ = omega (arith, short.0, room.0) in
      let j : length (cells_in file) ≤ length ts₀ = omega (arith, short.1.0, room.1.0) in
      let k : length (doors_in file) ≤ length ds₀ = omega (arith, short.1.1, room.1.1) in
      simp (le-leb _ _ i, le-leb _ _ j, le-leb _ _ k)

  -- so the reply is the check's
  by_the_check : framed file ≡ true → reply ≡ check_of_lists
  by_the_check fr = by_its_lists file (length cs₀) (length ts₀) (length ds₀) fr ∙ roomy check_of_lists refl
    where
      roomy : (c : Result Plan Refusal) → check_of_lists ≡ c → given_room (has_room (corners_in file) (cells_in file) (doors_in file) (length cs₀) (length ts₀) (length ds₀)) c ≡ c
      roomy (Ok p) e = ap (λ (b : Bool). given_room b (Ok p)) (has_all e)
      roomy (Err r) e = refused_stays (has_room (corners_in file) (cells_in file) (doors_in file) (length cs₀) (length ts₀) (length ds₀)) r

  module _ (w : ℕ) (s : Stand) (table : List ℕ) where
    -- a refusal of the reader is the listing's
    pub refused_is_listed : {r : Refusal} → reply ≡ Err r → (Err r, table) ≡ file_listed file w s table
    refused_is_listed {r} e = by_frame (framed file) refl
      where
        by_frame : (b : Bool) → framed file ≡ b → (Err r, table) ≡ file_listed file w s table
        by_frame true fr =
            listing_refused (kind_in file) (corners_in file) (cells_in file) (doors_in file) (asks w s) table
            (sym (plan_refused (kind_in file) (corners_in file) (cells_in file) (doors_in file) (asks w s) (sym (by_the_check fr) ∙ e)))
            ∙ sym (framed_is_listed file w s table fr)
        by_frame false fr =
            let both : ◌≡◌ {A = Result Plan Refusal} (Err R.Frame) (Err r) = sym (unframed file (length cs₀) (length ts₀) (length ds₀) fr) ∙ e in
            let same : R.Frame ≡ r = cc in
            ap (λ (q : Refusal). (Err q, table)) (sym same) ∙ sym (unframed_is_refused file w s table fr)

  -- what the reader accepts stands in the lists, from their beginning
  module _ {p : Plan} (e : reply ≡ Ok p) where
    is_framed : framed file ≡ true
    is_framed = by_frame (framed file) refl
      where
        by_frame : (b : Bool) → framed file ≡ b → framed file ≡ true
        by_frame true fr = fr
        by_frame false fr =
            let both : ◌≡◌ {A = Result Plan Refusal} (Err R.Frame) (Ok p) = sym (unframed file (length cs₀) (length ts₀) (length ds₀) fr) ∙ e in
            let z : ◌≡◌ {A = ℕ} 0 1 = cc in
            absurd (omega arith)

    sound : check_of_lists ≡ Ok p
    sound = sym (by_the_check is_framed) ∙ e

    -- how long the lists are, and that each is within the limits
    pub record Lengths : Type 0 where
      pub corners : length (corners_in file) ≡ 2 * p.corners
      pub doors : length (doors_in file) ≡ p.doors
      pub few_corners : 2 * p.corners ≤ 2 * most_corners
      pub few_cells : length (cells_in file) ≤ 17 * most_cells
      pub few_doors : p.doors ≤ most_doors

    pub lengths : Lengths
    lengths =
        let whole = accepted_is_sound (kind_in file) (corners_in file) (cells_in file) (doors_in file) p sound in
        let short = small (kind_in file) (corners_in file) (cells_in file) (doors_in file) sound in
        let n : p.corners ≡ length (corners_in file) / 2 = accepted_corners (kind_in file) (corners_in file) (cells_in file) (doors_in file) sound in
        let k : p.doors ≡ length (doors_in file) = accepted_doors (kind_in file) (corners_in file) (cells_in file) (doors_in file) sound in
        record {
          corners = omega (arith, whole.0.whole_corners);
          doors = omega arith;
          few_corners = omega (arith, short.0, whole.0.whole_corners);
          few_cells = short.1.0;
          few_doors = omega (arith, short.1.1);
        }

-- what was told as a refusal was refused
was_refused : (k m : ℕ) (c : Result Plan Refusal) {r : Refusal} → told k m c ≡ Err r → c ≡ Err r
was_refused k m (Ok p) e = let z : ◌≡◌ {A = ℕ} 0 1 = cc in absurd (omega arith)
was_refused k m (Err q) {r} e = let same : q ≡ r = cc in ap Err same

module _ (file : List ℕ) (cs₀ : List ℤ) (ts₀ ds₀ : List ℕ) (room : (2 * most_corners ≤ length cs₀) × ((17 * most_cells ≤ length ts₀) × (most_doors ≤ length ds₀))) {said : Result ReadPlan Refusal} {cs : List ℤ} {ts ds : List ℕ} (done : (said, (cs, (ts, ds))) ≡ read file cs₀ ts₀ ds₀) where
  replied : said ≡ told (kind_in file) (length (cells_in file)) (reply file cs₀ ts₀ ds₀ room)
  replied = ap (λ (q : Result ReadPlan Refusal × (List ℤ × (List ℕ × List ℕ))). q.0) done

  -- the way out of a refusal
  pub refused_by_the_reader : (w : ℕ) (s : Stand) (table : List ℕ) {r : Refusal} → said ≡ Err r → (Err r, table) ≡ file_listed file w s table
  refused_by_the_reader w s table e = refused_is_listed file cs₀ ts₀ ds₀ room w s table (was_refused (kind_in file) (length (cells_in file)) _ (sym replied ∙ e))

  module _ {p : Plan} {kind m : ℕ} (e : said ≡ Ok (record { counts = p; kind = kind; numbers = m })) where
    was : (reply file cs₀ ts₀ ds₀ room ≡ Ok p) × ((kind_in file ≡ kind) × (length (cells_in file) ≡ m))
    was = was_told (kind_in file) (length (cells_in file)) _ (sym replied ∙ e)

    pub accepted : reply file cs₀ ts₀ ds₀ room ≡ Ok p
    accepted = was.0

    corners_are : cs ≡ sets cs₀ 0 (corners_in file)
    corners_are = ap (λ (q : Result ReadPlan Refusal × (List ℤ × (List ℕ × List ℕ))). q.1.0) done ∙ ap (λ (q : Result Plan Refusal). left_by q cs₀ (corners_in file)) accepted

    cells_are : ts ≡ sets ts₀ 0 (cells_in file)
    cells_are = ap (λ (q : Result ReadPlan Refusal × (List ℤ × (List ℕ × List ℕ))). q.1.1.0) done ∙ ap (λ (q : Result Plan Refusal). left_by q ts₀ (cells_in file)) accepted

    doors_are : ds ≡ sets ds₀ 0 (doors_in file)
    doors_are = ap (λ (q : Result ReadPlan Refusal × (List ℤ × (List ℕ × List ℕ))). q.1.1.1) done ∙ ap (λ (q : Result Plan Refusal). left_by q ds₀ (doors_in file)) accepted

    pub long : Lengths file cs₀ ts₀ ds₀ room accepted
    long = lengths file cs₀ ts₀ ds₀ room accepted

    -- each list's numbers stand within it
    pub within : (2 * p.corners ≤ length cs) × ((m ≤ length ts) × (p.doors ≤ length ds))
    within =
        let n = ap length corners_are ∙ length-sets cs₀ 0 (corners_in file) in
        let j = ap length cells_are ∙ length-sets ts₀ 0 (cells_in file) in
        let k = ap length doors_are ∙ length-sets ds₀ 0 (doors_in file) in (
          omega (arith, long.few_corners, room.0),
          (omega (arith, long.few_cells, room.1.0, was.1.1), omega (arith, long.few_doors, room.1.1)),
        )

    -- the way out of an acceptance: what the listing of those numbers leaves
    pub listed_from_the_reader : (w : ℕ) (s : Stand) (table : List ℕ) {left : Result Counts Refusal × List ℕ} → left ≡ listed_up_to kind (take (2 * p.corners) cs) (take m ts) (take p.doors ds) (asks w s) None table → left ≡ file_listed file w s table
    listed_from_the_reader w s table {left} is =
        let n = ap (take (2 * p.corners)) corners_are ∙ first_is_new cs₀ (corners_in file) (2 * p.corners) long.corners (omega (arith, long.few_corners, room.0)) in
        let j = ap (take m) cells_are ∙ first_is_new ts₀ (cells_in file) m was.1.1 (omega (arith, long.few_cells, room.1.0, was.1.1)) in
        let k = ap (take p.doors) doors_are ∙ first_is_new ds₀ (doors_in file) p.doors long.doors (omega (arith, long.few_doors, room.1.1)) in
        is
        ∙ no_ceiling kind (take (2 * p.corners) cs) (take m ts) (take p.doors ds) (asks w s) table
        ∙ ap₂ (λ (i : ℕ) (l : List ℤ). listed i l (take m ts) (take p.doors ds) (asks w s) table) (sym was.1.0) n
        ∙ ap₂ (λ (l o : List ℕ). listed (kind_in file) (corners_in file) l o (asks w s) table) j k
        ∙ sym (framed_is_listed file w s table (is_framed file cs₀ ts₀ ds₀ room accepted))

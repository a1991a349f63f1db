-- `planfile::read_framed` meets its contract.
use mathlib.Core.List.{List}
use mathlib.Core.Path.{◌≡◌, ap, sym, ◌∙◌}
use lib.IntN.{ℤ}
use Rattle.std.specs.Prelude.{Result, Err, None, Some}
use Rattle.limits.specs.declared.Refusal.{Refusal}
use Rattle.limits.specs.declared.Refusal.TheVariants.{Frame}
use Rattle.limits.proofs.Handed.{handed_on, err_same}
use Rattle.planfile.specs.declared.ReadPlan.{ReadPlan}
use Rattle.planfile.specs.Calls.{told}
use Prim.Native.Nat.{ℕ}
use native.Mathlib.Omega.{arith}
use lib.ListN.{length}
use Rattle.records.specs.Record.{kind_at}
use Rattle.planfile.specs.File.{kind_in}
use Rattle.planfile.proofs.Places.{Places, Spaces, first_there, second_there, places, spaces}
use Rattle.planfile.proofs.Decodes.{lent, back, shared, corners_fit, cells_fit, doors_fit, corners_decoded, cells_decoded, doors_decoded, cells_long, not_cut, wrong_size, few_cells, lists_read}
use Rattle.planfile.proofs.read_framed.Goals as goal
use Rattle.planfile.proofs.read_framed.Goals.{After-end-third, Else-not-is_sized, In_ok-sizes}

-- where the records lie
places_at : (c : After-end-third) → Places c.args.file.now c.end-second.result c.end-third.result
places_at c =
    places c.args.file.now c.requires.file_value c.end-second.ensures.value c.end-third.ensures.value

kind_is : {s : List ℕ} {b c k : ℕ} → Places s b c → k ≡ kind_at s b → k ≡ kind_in s
kind_is p e = e ∙ p.kind

-- the list of cells is cut into whole ones
cut : (c : In_ok-sizes) → c.count.result ≡ Some c.in_ok-sizes.sizes
cut c = grind arith

sized_whole : (c : Else-not-is_sized) → c.count.result ≡ Some c.in_ok-sizes.sizes
sized_whole c = grind arith

-- the lists that are lent for decoding have room
spaces_at : (c : Else-not-is_sized) → Spaces c.args.file.now c.end-second.result c.end-third.result (length c.args.cs.now) (length c.args.ts.now) (length c.args.ds.now)
spaces_at c =
    let p = places c.args.file.now c.requires.file_value c.end-second.ensures.value c.end-third.ensures.value in
    spaces _ p (sym c.is_sized.ensures ∙ c.if-not-is_sized.false) (few_cells c.args.file.now c.args.corners.now c.args.cells.now c.args.doors.now c.requires.file_value p (kind_is p c.kind-kind.ensures) c.count.ensures (sized_whole c) c.is_sized.ensures c.if-not-is_sized.false) c.requires.most_corners_in_bounds c.requires.most_cells_in_bounds c.requires.most_doors_in_bounds

pub end-second-requires : goal.end-second-requires
end-second-requires c = first_there c.args.file.now c.requires.file_value

pub end-third-requires : goal.end-third-requires
end-third-requires c = second_there c.args.file.now c.requires.file_value c.end-second.ensures.value

pub kind-kind-requires : goal.kind-kind-requires
kind-kind-requires c = second_there c.args.file.now c.requires.file_value c.end-second.ensures.value

pub overflow_sub-n : goal.overflow_sub-n
overflow_sub-n c = (places_at (goal.at.overflow_sub-n c).After-end-third).first

pub overflow_sub-m : goal.overflow_sub-m
overflow_sub-m c = omega (arith, places_at (goal.at.overflow_sub-m c).After-end-third)

pub overflow_sub-m-2 : goal.overflow_sub-m-2
overflow_sub-m-2 c = omega (arith, places_at (goal.at.overflow_sub-m-2 c).After-end-third)

pub overflow_sub-k : goal.overflow_sub-k
overflow_sub-k c = omega (arith, places_at (goal.at.overflow_sub-k c).After-end-third)

pub overflow_sub-k-2 : goal.overflow_sub-k-2
overflow_sub-k-2 c = omega (arith, places_at (goal.at.overflow_sub-k-2 c).After-end-third)

pub count-requires : goal.count-requires
count-requires c = let p = places_at (goal.at.count-requires c).After-end-third in
    record { file_value = c.requires.file_value; m_in_bounds = omega arith; kind_value = kind_is p c.kind-kind.ensures; m_value = sym p.cells }

-- the answer to a refusal that was handed on, and the lists as they were
abbrev answered : List ℤ → List ℕ → List ℕ → Result ReadPlan Refusal → Result ReadPlan Refusal × (List ℤ × (List ℕ × List ℕ))
answered corners cells doors r = (r, (corners, (cells, doors)))

pub returns-in_err-sizes : goal.returns-in_err-sizes
returns-in_err-sizes c = let broken : c.count.result ≡ None = grind arith in
    let frame : c.ok_or.result ≡ Err Frame = grind (arith, broken) in
    ap (answered c.args.corners.now c.args.cells.now c.args.doors.now) (handed_on c.from_residual.ensures.1 ∙ ap Err (err_same (sym c.in_err-sizes.was ∙ frame)))
    ∙ not_cut c.args.file.now c.args.corners.now c.args.cells.now c.args.doors.now c.requires.file_value (places_at (goal.at.returns-in_err-sizes c).After-end-third) (kind_is (places_at (goal.at.returns-in_err-sizes c).After-end-third) c.kind-kind.ensures) c.count.ensures broken

pub returns-then-not-is_sized : goal.returns-then-not-is_sized
returns-then-not-is_sized c = wrong_size c.args.file.now c.args.corners.now c.args.cells.now c.args.doors.now c.requires.file_value (places_at (goal.at.returns-then-not-is_sized c).After-end-third) (kind_is (places_at (goal.at.returns-then-not-is_sized c).After-end-third) c.kind-kind.ensures) c.count.ensures (cut (goal.at.returns-then-not-is_sized c).In_ok-sizes) c.is_sized.ensures c.if-not-is_sized.true

pub slice_bounds-get_corners-end : goal.slice_bounds-get_corners-end
slice_bounds-get_corners-end c = (spaces_at (goal.at.slice_bounds-get_corners-end c).Else-not-is_sized).corners

pub slice_bounds-get_corners-end-2 : goal.slice_bounds-get_corners-end-2
slice_bounds-get_corners-end-2 c = lent c.args.cs.now _ (spaces_at (goal.at.slice_bounds-get_corners-end-2 c).Else-not-is_sized).corners

pub get_corners-requires : goal.get_corners-requires
get_corners-requires c = corners_fit (places_at (goal.at.get_corners-requires c).After-end-third) c.args.cs.now (spaces_at (goal.at.get_corners-requires c).Else-not-is_sized).corners

pub slice_bounds-get_numbers-end : goal.slice_bounds-get_numbers-end
slice_bounds-get_numbers-end c = (spaces_at (goal.at.slice_bounds-get_numbers-end c).Else-not-is_sized).cells

pub slice_bounds-get_numbers-end-2 : goal.slice_bounds-get_numbers-end-2
slice_bounds-get_numbers-end-2 c = lent c.args.ts.now _ (spaces_at (goal.at.slice_bounds-get_numbers-end-2 c).Else-not-is_sized).cells

pub get_numbers-requires : goal.get_numbers-requires
get_numbers-requires c = cells_fit (places_at (goal.at.get_numbers-requires c).After-end-third) c.args.ts.now (spaces_at (goal.at.get_numbers-requires c).Else-not-is_sized).cells

pub slice_bounds-get_numbers-end-3 : goal.slice_bounds-get_numbers-end-3
slice_bounds-get_numbers-end-3 c = (spaces_at (goal.at.slice_bounds-get_numbers-end-3 c).Else-not-is_sized).doors

pub slice_bounds-get_numbers-end-4 : goal.slice_bounds-get_numbers-end-4
slice_bounds-get_numbers-end-4 c = lent c.args.ds.now _ (spaces_at (goal.at.slice_bounds-get_numbers-end-4 c).Else-not-is_sized).doors

pub get_numbers-requires-2 : goal.get_numbers-requires-2
get_numbers-requires-2 c = doors_fit (places_at (goal.at.get_numbers-requires-2 c).After-end-third) c.args.ds.now (spaces_at (goal.at.get_numbers-requires-2 c).Else-not-is_sized).doors

pub slice_bounds-hand_over-end : goal.slice_bounds-hand_over-end
slice_bounds-hand_over-end c = back c.args.cs.now _ (spaces_at (goal.at.slice_bounds-hand_over-end c).Else-not-is_sized).corners c.get_corners.new.corners c.get_corners.auto.corners

pub slice_bounds-hand_over-end-2 : goal.slice_bounds-hand_over-end-2
slice_bounds-hand_over-end-2 c = shared c.args.cs.now _ (spaces_at (goal.at.slice_bounds-hand_over-end-2 c).Else-not-is_sized).corners c.get_corners.new.corners c.get_corners.auto.corners

pub slice_bounds-hand_over-end-3 : goal.slice_bounds-hand_over-end-3
slice_bounds-hand_over-end-3 c = back c.args.ts.now _ (spaces_at (goal.at.slice_bounds-hand_over-end-3 c).Else-not-is_sized).cells c.get_numbers.new.numbers c.get_numbers.auto.numbers

pub slice_bounds-hand_over-end-4 : goal.slice_bounds-hand_over-end-4
slice_bounds-hand_over-end-4 c = shared c.args.ts.now _ (spaces_at (goal.at.slice_bounds-hand_over-end-4 c).Else-not-is_sized).cells c.get_numbers.new.numbers c.get_numbers.auto.numbers

pub slice_bounds-hand_over-end-5 : goal.slice_bounds-hand_over-end-5
slice_bounds-hand_over-end-5 c = back c.args.ds.now _ (spaces_at (goal.at.slice_bounds-hand_over-end-5 c).Else-not-is_sized).doors c.get_numbers-2.new.numbers c.get_numbers-2.auto.numbers

pub slice_bounds-hand_over-end-6 : goal.slice_bounds-hand_over-end-6
slice_bounds-hand_over-end-6 c = shared c.args.ds.now _ (spaces_at (goal.at.slice_bounds-hand_over-end-6 c).Else-not-is_sized).doors c.get_numbers-2.new.numbers c.get_numbers-2.auto.numbers

pub returns-in_err-counts : goal.returns-in_err-counts
returns-in_err-counts c = let p = places_at (goal.at.returns-in_err-counts c).After-end-third in
    let room = spaces_at (goal.at.returns-in_err-counts c).Else-not-is_sized in
    lists_read c.args.file.now c.args.corners.now c.args.cells.now c.args.doors.now c.requires.file_value (kind_is p c.kind-kind.ensures)
    (corners_decoded p c.args.cs.now room.corners c.get_corners.new.corners c.get_corners.auto.corners c.get_corners.ensures)
    (cells_decoded p c.args.ts.now room.cells c.get_numbers.new.numbers c.get_numbers.auto.numbers c.get_numbers.ensures)
    (doors_decoded p c.args.ds.now room.doors c.get_numbers-2.new.numbers c.get_numbers-2.auto.numbers c.get_numbers-2.ensures)
    (sym (cells_long p)) c.hand_over.ensures.value c.hand_over.ensures.doors_after (handed_on c.from_residual-in_err-counts.ensures.1 ∙ sym (ap (told _ _) c.in_err-counts.was))

pub returns : goal.returns
returns c = let p = places_at (goal.at.returns c).After-end-third in
    let room = spaces_at (goal.at.returns c).Else-not-is_sized in
    lists_read c.args.file.now c.args.corners.now c.args.cells.now c.args.doors.now c.requires.file_value (kind_is p c.kind-kind.ensures)
    (corners_decoded p c.args.cs.now room.corners c.get_corners.new.corners c.get_corners.auto.corners c.get_corners.ensures)
    (cells_decoded p c.args.ts.now room.cells c.get_numbers.new.numbers c.get_numbers.auto.numbers c.get_numbers.ensures)
    (doors_decoded p c.args.ds.now room.doors c.get_numbers-2.new.numbers c.get_numbers-2.auto.numbers c.get_numbers-2.ensures)
    (sym (cells_long p)) c.hand_over.ensures.value c.hand_over.ensures.doors_after (sym (ap (told _ _) c.in_ok-counts.was))

-- `checking::cell::is_wrong_side` meets its contract.
use mathlib.Core.Path.{◌≡◌, refl, ap, ◌∙◌}
use Prim.Native.Nat.{ℕ}
use borrow.Author.Tests.{tests}
use Rattle.std.proofs.Common.{rules}
use Rattle.std.proofs.lemmas.Iterator.{serves_from_Range}
use Rattle.cells.specs.Lists.{start}
use Rattle.cells.specs.Check.{some_face, wrong_side, wrong_for_side}
use Rattle.cells.proofs.Faces.{side_exists, next_is_a_side}
use Rattle.cells.proofs.Searches.{some_from_any}
use Rattle.face.specs.Tables.{tables}
use Rattle.checking.proofs.Cells.{side_from, corner_there}
use Rattle.checking.proofs.cell.is_wrong_side.Goals as goal

pub start-a-requires : goal.start-a-requires
start-a-requires c = side_exists c.args.cells.now.numbered c.requires.c_bound c.requires.side_of

pub start-b-requires : goal.start-b-requires
start-b-requires c = rw (c.next-n.ensures.of_a_side c.requires.side_of) (side_exists c.args.cells.now.numbered c.requires.c_bound (next_is_a_side c.args.cells.now.numbered c.requires.c_bound c.requires.side_of))

pub any-requires-clause-callable : goal.any-requires-clause-callable
any-requires-clause-callable c = serves_from_Range (λ x q k. search rules)
    (λ x h l.
    let N = c.args.cells.now.numbered in
    let cs = c.args.corners.now in
    let whole = c.requires.none_missing in
    let side = side_from c.first.ensures c.end.ensures h l in
    let exists = side_exists N c.requires.c_bound side in
    let next_side = next_is_a_side N c.requires.c_bound c.requires.side_of in
    let a_there = corner_there cs N c.requires.c_bound whole c.requires.side_of c.start-a.ensures in
    let b_there = corner_there cs N c.requires.c_bound whole next_side (c.start-b.ensures ∙ ap (start (tables c.args.cells.now)) (c.next-n.ensures.of_a_side c.requires.side_of)) in
    let d_there = λ (d : ℕ) (e : d ≡ start (tables c.args.cells.now) x). corner_there cs N c.requires.c_bound whole side e in
    search rules)

pub returns : goal.returns
unfolding some_face wrong_side wrong_for_side
returns c = some_from_any (wrong_for_side c.args.corners.now (tables c.args.cells.now) c.args.f) _ _ _ c.first.ensures c.end.ensures refl _ c.any.ensures.ran (λ x q k. search (rules, tests)) (λ x q k. search (rules, tests))

-- `sight::list::list_at` meets its contract.
use mathlib.Core.Path.{◌∙◌, ap}
use Rattle.sight.specs.Ceiling.{up_to}
use Rattle.stand.proofs.Located.{found_place_holds_the_stand}
use Rattle.sight.proofs.Lister.{tables_serve, tree_listed}
use Rattle.sight.proofs.list.list_at.Goals as goal

pub list_up_to-requires : goal.list_up_to-requires
list_up_to-requires c = let sound = c.requires.sound.0 in
    let parts = tables_serve sound c.args.setting c.args.reach _ c.requires.near.0 c.lines_of.ensures c.see.ensures _ (found_place_holds_the_stand _ sound.numbered _ _ _ c.requires.near.1) c.requires.corners_in_bounds.1 _ c.requires.corners_in_bounds.0 in
    record { lines = parts.0; stands_in = parts.1.0; whole = parts.1.1.0; p_in_bounds = parts.1.1.1.0; p_bound = parts.1.1.1.1 }

pub returns : goal.returns
returns c = let sound = c.requires.sound.0 in
    c.list_up_to.ensures
    ∙ ap (up_to c.args.ceiling c.args.table.now) (tree_listed sound c.args.setting c.args.reach _ c.requires.near.0 c.lines_of.ensures c.see.ensures _ (found_place_holds_the_stand _ sound.numbered _ _ _ c.requires.near.1) c.args.table.now)

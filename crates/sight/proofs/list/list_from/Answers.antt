-- `sight::list::list_from` meets its contract.
use Rattle.stand.proofs.Located.{found_place_holds_the_stand}
use Rattle.sight.proofs.Lister.{tables_serve, listing_written}
use Rattle.sight.proofs.list.list_from.Goals as goal

pub list_all-requires : goal.list_all-requires
list_all-requires c = let sound = c.requires.sound.0 in
    let serve = tables_serve sound c.args.setting c.args.reach _ c.requires.near.0 c.lines_of.ensures c.see.ensures _ (found_place_holds_the_stand _ sound.numbered _ _ _ c.requires.near.1) c.requires.corners_in_bounds.1 _ c.requires.corners_in_bounds.0 in
    record { lines = serve.0; stands_in = serve.1.0; whole = serve.1.1.0; p_in_bounds = serve.1.1.1.0; p_bound = serve.1.1.1.1.1 }

pub returns : goal.returns
returns c = let sound = c.requires.sound.0 in
    let parts = listing_written sound c.args.setting c.args.reach _ c.requires.near.0 c.lines_of.ensures c.see.ensures _ (found_place_holds_the_stand _ sound.numbered _ _ _ c.requires.near.1) _ (c.list_all.ensures.rows_value, (c.list_all.ensures.crossings_value, c.list_all.ensures.table_after)) in
    record { rows_value = parts.0; crossings_value = parts.1.0; table_after = parts.1.1 }

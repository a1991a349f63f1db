-- `printing::print_file` meets its contract.
use native.Mathlib.Omega.{arith}
use Rattle.printing.specs.Print.{blank_table}
use Rattle.printing.proofs.Listings.{few_rows_of_a_file}
use Rattle.printing.proofs.print_file.Goals as goal

pub put_listing-requires : goal.put_listing-requires
put_listing-requires c = let few = few_rows_of_a_file c.args.file.now c.args.setting c.args.stand blank_table c.list_file.ensures c.in-Ok.is in
    let kept = c.list_file.auto.table in
    record { room = omega (arith, few.0, c.requires); rows_there = omega (arith, few.1, kept) }

pub returns-in-Err : goal.returns-in-Err
returns-in-Err c = rw (← c.list_file.ensures, c.in-Err.is) c.put_refusal.ensures

pub returns-in-Ok : goal.returns-in-Ok
returns-in-Ok c = rw (← c.list_file.ensures, c.in-Ok.is) c.put_listing.ensures

-- `checking::door::is_named` meets its contract.
use mathlib.Core.Bool.{true, false, ◌||◌}
use mathlib.Core.Path.{◌≡◌}
use borrow.Author.Tests.{tests}
use lib.Dec.{eqb}
use Rattle.std.proofs.Common.{rules}
use Rattle.std.proofs.lemmas.Iterator.{cases_from_any, YieldsList-from_slice}
use Rattle.checking.proofs.Doors.{named}
use Rattle.checking.proofs.door.is_named.Goals as goal

pub returns : goal.returns
returns c = named _ c.args.f c.args.g _ (cases_from_any _ _ _ (λ d. eqb d c.args.f || eqb d c.args.g ≡ true) (λ d. eqb d c.args.f || eqb d c.args.g ≡ false) c.any.ensures.ran (YieldsList-from_slice c.args.doors.now cc) (λ x q k. search (rules, tests)) (λ x q k. search (rules, tests)))

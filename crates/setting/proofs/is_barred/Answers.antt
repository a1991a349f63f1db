-- `setting::is_barred` meets its contract.
use mathlib.Core.Path.{refl}
use native.Mathlib.Omega.{arith}
use Rattle.std.proofs.Common.{rules}
use Rattle.cells.proofs.Searches.{some_from_any}
use Rattle.setting.specs.Setting.{bars}
use Rattle.setting.proofs.is_barred.Goals as goal

pub returns : goal.returns
returns c = let a = c.args in
    some_from_any (bars a.doors.now a.setting a.f a.g) _ _ _ refl refl (omega arith) _ c.any.ensures.ran (λ x q k. search rules) (λ x q k. search rules)

-- A bound on a whole number.
use Rattle.std.specs.Prelude.{ℕ, ◌≤◌, ℤ, nat_abs}

-- z lies from −A to A
pub record Within (A : ℕ) (z : ℤ) : Type 0 where
  pub size : nat_abs z ≤ A

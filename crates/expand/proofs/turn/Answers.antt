-- `expand::turn` meets its contract: each product is at most 2^60, and the cross product 2^61.
use Prim.Native.Nat.{ℕ, ◌+◌, ◌*◌, ◌/◌, ◌^◌, ◌<◌}
use mathlib.Core.List.{List}
use lib.IntN.{ℤ, pos, ◌*ℤ◌}
use lib.ListN.{length, get_or}
use lib.Signed.{mag}
use mir.Syntax.{w32, w64}
use mir.Val.{to_z, of_z}
use native.Mathlib.Omega.{arith}
use Rattle.exact.proofs.Bounds.{Exactly, fits, reads_back, minus, times, widened, widened_fits}
use Rattle.plane.specs.Cone.{cross}
use Rattle.reach.specs.Reach.{most_apart}
use Rattle.expand.specs.Floor.{Near}
use borrow.Author.Rules.{rules}
use Rattle.expand.proofs.turn.Goals as goal

-- a number of the table, read and widened
abbrev wide : ℤ → ℤ
wide z = to_z w64 (of_z w64 (to_z w32 (of_z w32 z)))

far : {zs : List ℤ} → Near zs → (i : ℕ) → i < length zs → mag (get_or zs i (pos 0)) < 2 ^ 31 → Exactly (wide (get_or zs i (pos 0))) (get_or zs i (pos 0)) most_apart
far {zs} n i h f = record { is = widened w32 w64 tt (get_or zs i (pos 0)) f; size = (n.near i h).size }

-- the product of two of them
product : {u v : ℤ} → Exactly (wide u) u most_apart → Exactly (wide v) v most_apart → Exactly (wide u *ℤ wide v) (u *ℤ v) 1152921504606846976
product h k = times h k

pub overflow_cast-ax : goal.overflow_cast-ax
overflow_cast-ax c = widened_fits w32 w64 tt (get_or c.args.seen.now (2 * c.args.a) (pos 0)) (search rules)

pub overflow_cast-ay : goal.overflow_cast-ay
overflow_cast-ay c = widened_fits w32 w64 tt (get_or c.args.seen.now (2 * c.args.a + 1) (pos 0)) (search rules)

pub overflow_cast-bx : goal.overflow_cast-bx
overflow_cast-bx c = widened_fits w32 w64 tt (get_or c.args.seen.now (2 * c.args.b) (pos 0)) (search rules)

pub overflow_cast-by : goal.overflow_cast-by
overflow_cast-by c = widened_fits w32 w64 tt (get_or c.args.seen.now (2 * c.args.b + 1) (pos 0)) (search rules)

module _ {zs : List ℤ} (n : Near zs) (a b : ℕ) (h : a < length zs / 2) (k : b < length zs / 2) where
  left : mag (get_or zs (2 * a) (pos 0)) < 2 ^ 31 → mag (get_or zs (2 * b + 1) (pos 0)) < 2 ^ 31 →
      let x = get_or zs (2 * a) (pos 0) in
      let y = get_or zs (2 * b + 1) (pos 0) in
      Exactly (wide x *ℤ wide y) (x *ℤ y) 1152921504606846976
  left f g = product (far n (2 * a) (omega arith) f) (far n (2 * b + 1) (omega arith) g)

  right : mag (get_or zs (2 * a + 1) (pos 0)) < 2 ^ 31 → mag (get_or zs (2 * b) (pos 0)) < 2 ^ 31 →
      let y = get_or zs (2 * a + 1) (pos 0) in
      let x = get_or zs (2 * b) (pos 0) in
      Exactly (wide y *ℤ wide x) (y *ℤ x) 1152921504606846976
  right f g = product (far n (2 * a + 1) (omega arith) f) (far n (2 * b) (omega arith) g)

pub overflow_mul-left : goal.overflow_mul-left
overflow_mul-left c = fits w64 tt (left c.requires.near c.args.a c.args.b c.requires.a_in_bounds.0 c.requires.a_in_bounds.1 (search rules) (search rules))

pub overflow_mul-right : goal.overflow_mul-right
overflow_mul-right c = fits w64 tt (right c.requires.near c.args.a c.args.b c.requires.a_in_bounds.0 c.requires.a_in_bounds.1 (search rules) (search rules))

pub overflow_sub-result : goal.overflow_sub-result
overflow_sub-result c = fits w64 tt (minus (reads_back w64 tt (left c.requires.near c.args.a c.args.b c.requires.a_in_bounds.0 c.requires.a_in_bounds.1 (search rules) (search rules))) (reads_back w64 tt (right c.requires.near c.args.a c.args.b c.requires.a_in_bounds.0 c.requires.a_in_bounds.1 (search rules) (search rules))))

pub returns : goal.returns
unfolding cross
returns c = (reads_back w64 tt (minus (reads_back w64 tt (left c.requires.near c.args.a c.args.b c.requires.a_in_bounds.0 c.requires.a_in_bounds.1 (search rules) (search rules))) (reads_back w64 tt (right c.requires.near c.args.a c.args.b c.requires.a_in_bounds.0 c.requires.a_in_bounds.1 (search rules) (search rules))))).is

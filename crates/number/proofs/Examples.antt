-- What single doubles read as, computed from their bits.
use Rattle.std.proofs.Common.{◌≡◌, Bool, pos, negsuc, refl}
use lib.Ieee.{nan, inf, binary32, binary64, of_bits}
use Rattle.number.specs.Whole.{whole, minus_zero}
use Rattle.std.specs.Prelude.{None, Some}

pub six : whole (of_bits binary64 0x4018_0000_0000_0000) ≡ Some (pos 6)
unfolding whole of_bits
six = refl

pub minus_zero_reads_as_zero : whole (of_bits binary64 0x8000_0000_0000_0000) ≡ Some (pos 0)
unfolding whole of_bits
minus_zero_reads_as_zero = refl

-- of either precision it is the one float that is called minus zero
pub bits_of_minus_zero : (of_bits binary32 0x8000_0000 ≡ minus_zero) × (of_bits binary64 0x8000_0000_0000_0000 ≡ minus_zero)
unfolding of_bits
bits_of_minus_zero = (refl, refl)

pub six_and_a_half_is_refused : whole (of_bits binary64 0x401a_0000_0000_0000) ≡ None
unfolding whole of_bits
six_and_a_half_is_refused = refl

pub nan_is_refused : whole nan ≡ None
unfolding whole
nan_is_refused = refl

pub infinity_is_refused : (s : Bool) → whole (inf s) ≡ None
unfolding whole
infinity_is_refused s = refl

-- 2^29, −2^29 and the whole numbers beyond them

pub highest_is_accepted : whole (of_bits binary64 0x41c0_0000_0000_0000) ≡ Some (pos 536870912)
unfolding whole of_bits
highest_is_accepted = refl

pub lowest_is_accepted : whole (of_bits binary64 0xc1c0_0000_0000_0000) ≡ Some (negsuc 536870911)
unfolding whole of_bits
lowest_is_accepted = refl

pub one_more_is_refused : whole (of_bits binary64 0x41c0_0000_0080_0000) ≡ None
unfolding whole of_bits
one_more_is_refused = refl

pub one_less_is_refused : whole (of_bits binary64 0xc1c0_0000_0080_0000) ≡ None
unfolding whole of_bits
one_less_is_refused = refl

-- the least positive double and the largest finite one

pub least_is_refused : whole (of_bits binary64 1) ≡ None
unfolding whole of_bits
least_is_refused = refl

pub largest_is_refused : whole (of_bits binary64 0x7fef_ffff_ffff_ffff) ≡ None
unfolding whole of_bits
largest_is_refused = refl

-- A double that passed all three tests is within the machine's integers, and truncation leaves its integer.
use Rattle.std.proofs.Common.{◌≡◌, Bool, true, ◌&&◌, sym, refl, ap, ◌∙◌, w64, to_z, of_z}
use Rattle.std.specs.Prelude.{Some}
use Rattle.exact.proofs.Bounds.{handed}
use Rattle.number.specs.Whole.{is_finite, is_whole, is_within, integer, accepted, whole}
use Rattle.number.proofs.Limits.{within_is_far_below}
use Rattle.number.proofs.Back.{truncated_is_its_integer, small_in_range}
use Rattle.number.proofs.whole_millimetres.Goals as goal

pub truncating_f64_to_i64-requires : goal.truncating_f64_to_i64-requires
truncating_f64_to_i64-requires c =
    let inside = small_in_range c.args.x (within_is_far_below c.args.x (sym c.is_within.ensures ∙ c.if-not-is_within.false)) in
    record { lower_bound = inside.0; upper_bound = inside.1 }

pub returns : goal.returns
unfolding whole
returns c =
    let x = c.args.x in
    let within : is_within x ≡ true = sym c.is_within.ensures ∙ c.if-not-is_within.false in
    let all : (is_finite x && is_whole x && is_within x) ≡ true =
    rw (sym c.is_finite.ensures.value ∙ c.if-not-is_finite.false, sym c.is_whole.ensures ∙ c.if-not-is_whole.false, within) refl in
    let number : to_z w64 (of_z w64 c.truncating_f64_to_i64.result) ≡ integer x =
    handed w64 c.truncating_f64_to_i64.type_inv c.truncating_f64_to_i64.ensures ∙ truncated_is_its_integer x (within_is_far_below x within) in
    ap Some number ∙ sym (ap (λ (t : Bool). accepted t (integer x)) all)

-- What a first number makes of a stand: a point, an offset from a corner, or a stand that every plan refuses. A list has a third as many
-- stands as numbers, and the stand i is made of the numbers 3·i, 3·i + 1 and 3·i + 2.
use mathlib.Core.Bool.{Bool, true, false}
use mathlib.Core.List.{List, [], ◌∷◌}
use mathlib.Core.Logic.{◌≢◌}
use mathlib.Core.Path.{◌≡◌, refl, ap, sym, ◌∙◌}
use Prim.Native.Nat.{ℕ, zero, suc, ◌+◌, ◌*◌, ◌/◌, ◌≤◌, ◌<◌}
use native.Mathlib.Omega.{arith}
use borrow.Author.Tests.{leb-true, le-leb}
use lib.Dec.{leb}
use lib.Ieee.{Float, binary64, of_bits}
use lib.IntN.{ℤ, pos, negsuc}
use lib.ListN.{length, get_or}
use Rattle.limits.specs.Limits.{most_corners}
use Rattle.number.proofs.Examples.{minus_zero_reads_as_zero}
use Rattle.number.specs.Whole.{whole}
use Rattle.cells.specs.Lists.{corner_count}
use Rattle.stand.proofs.Spots.{no_such_corner}
use Rattle.stand.specs.Spot.{stood}
use Rattle.stand.specs.declared.spot.Stand.{Stand}
use Rattle.stand.specs.declared.spot.Stand.TheVariants.{Point, Offset}
use Rattle.stands.specs.Numbered.{no_corner, by_number, stand_of, stands_of}
use Rattle.std.specs.Prelude.{None, Option, Some}

-- ---- the first number

module _ (c x y : Float) where
  pub a_point_is_a_point : whole c ≡ Some (negsuc 0) → stand_of c x y ≡ Point x y
  unfolding stand_of
  a_point_is_a_point e = ap (λ (m : Option ℤ). by_number m x y) e

  pub a_corner_is_an_offset : (u : ℕ) → u ≤ 65535 → whole c ≡ Some (pos u) → stand_of c x y ≡ Offset u x y
  unfolding stand_of
  a_corner_is_an_offset u h e = ap (λ (m : Option ℤ). by_number m x y) e ∙ rw (le-leb u 65535 h, by_number)

  -- no plan has the corner for a first number of any other kind, so the stand is refused
  pub no_corner_is_refused : (cs : List ℤ) → corner_count cs ≤ most_corners → whole c ≢ Some (negsuc 0)
      → ((u : ℕ) → u ≤ 65535 → whole c ≢ Some (pos u)) → stood cs (stand_of c x y) ≡ None
  unfolding stand_of
  no_corner_is_refused cs h p o = ap (stood cs) (by_cases (whole c) refl) ∙ sym (no_such_corner cs no_corner x y (omega arith))
    where
      by_cases : (m : Option ℤ) → whole c ≡ m → by_number m x y ≡ Offset no_corner x y
      by_cases (Some (pos u)) e = by_test (leb u 65535) refl
        where
          by_test : (t : Bool) → leb u 65535 ≡ t → elim t [ true ↦ Offset u x y | false ↦ Offset no_corner x y ] ≡ Offset no_corner x y
          by_test true h = absurd (o u (leb-true u 65535 h) e)
          by_test false h = refl
      by_cases (Some (negsuc zero)) e = absurd (p e)
      by_cases (Some (negsuc (suc n))) e = refl
      by_cases None e = refl

pub minus_zero_is_corner_zero : (x y : Float) → stand_of (of_bits binary64 0x8000_0000_0000_0000) x y ≡ Offset 0 x y
minus_zero_is_corner_zero x y = a_corner_is_an_offset (of_bits binary64 0x8000_0000_0000_0000) x y 0 (omega arith) minus_zero_reads_as_zero

-- ---- the list

pub length_of_stands : (ns : List Float) → length (stands_of ns) ≡ length ns / 3
unfolding stands_of
length_of_stands [] = refl
length_of_stands (a ∷ []) = refl
length_of_stands (a ∷ b ∷ []) = refl
length_of_stands (a ∷ b ∷ c ∷ rest) = omega (arith, length_of_stands rest)

-- the stand i; d and f are what is read past the ends
pub stand_at : (ns : List Float) (i : ℕ) (d : Stand) (f : Float) → i < length ns / 3
    → get_or (stands_of ns) i d ≡ stand_of (get_or ns (3 * i) f) (get_or ns (3 * i + 1) f) (get_or ns (3 * i + 2) f)
unfolding stands_of
stand_at [] i d f h = absurd (omega arith)
stand_at (a ∷ []) i d f h = absurd (omega arith)
stand_at (a ∷ b ∷ []) i d f h = absurd (omega arith)
stand_at (a ∷ b ∷ c ∷ rest) zero d f h = refl
stand_at (a ∷ b ∷ c ∷ rest) (suc i) d f h =
    let first : 3 * suc i ≡ suc (suc (suc (3 * i))) = omega arith in
    let second : 3 * suc i + 1 ≡ suc (suc (suc (3 * i + 1))) = omega arith in
    let third : 3 * suc i + 2 ≡ suc (suc (suc (3 * i + 2))) = omega arith in
    rw (second, third, first) (stand_at rest i d f (omega arith))

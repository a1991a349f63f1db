-- The listing's definition is the tree's: rows, numbers and crossings.
use mathlib.Core.List.{List}
use mathlib.Core.Path.{◌≡◌, refl, sym, ◌∙◌}
use Prim.Native.Nat.{ℕ}
use lib.IntN.{ℤ}
use Rattle.plane.specs.Side.{Point}
use Rattle.cells.specs.Lists.{Cells}
use Rattle.stand.specs.declared.locate.Footing.{Footing}
use Rattle.fan.specs.Sight.{rows, numbers, crossings}
use Rattle.runs.specs.Route.{routed, row_numbers}
use Rattle.runs.proofs.Routes.{routed_numbers_are_the_numbers}
use Rattle.sight.specs.Listing.{listing_rows, listing_numbers, listing_crossings, sight_from}

module _ (cs : List ℤ) (T : Cells) (ds : List ℕ) (w R : ℕ) (q : Point) (p : Footing) where
  pub rows_are : listing_rows cs T ds w R q p ≡ rows (sight_from cs T ds w R q p)
  unfolding listing_rows rows
  rows_are = refl

  pub numbers_are : listing_numbers cs T ds w R q p ≡ numbers (sight_from cs T ds w R q p)
  unfolding listing_numbers numbers
  numbers_are = refl

  -- and so they are with their routes
  pub numbers_are_routed : listing_numbers cs T ds w R q p ≡ row_numbers (routed (sight_from cs T ds w R q p))
  numbers_are_routed = numbers_are ∙ sym (routed_numbers_are_the_numbers (sight_from cs T ds w R q p))

  pub crossings_are : listing_crossings cs T ds w R q p ≡ crossings (sight_from cs T ds w R q p)
  unfolding listing_crossings crossings
  crossings_are = refl

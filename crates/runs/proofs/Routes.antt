-- Laws of routes.
use mathlib.Core.List.{map, map-append, map-map}
use mathlib.Core.Path.{◌≡◌, refl, ap, sym, ◌∙◌}
use Prim.Native.Nat.{zero, ◌+◌}
use lib.ListN.{length}
use Rattle.fan.specs.Sight.{Sight, rows, numbers}
use Rattle.fan.specs.Sight.Sight.{row, pass, both, cut}
use Rattle.fan.specs.Written.{written}
use Rattle.fan.specs.Once.{At}
use Rattle.fan.specs.Once.At.{first}
use Rattle.fan.proofs.Places.{second_joined}
use Rattle.fan.proofs.Written.{numbers_are_the_rows}
use Rattle.runs.specs.Route.{Routed, via, routed, way, row_numbers}

-- without their routes they are the rows
pub routed_rows_are_the_rows : (t : Sight) → map (λ (x : Routed). x.row) (routed t) ≡ rows t
unfolding routed rows
routed_rows_are_the_rows (row f r l k) = refl
routed_rows_are_the_rows (pass f r l t) = map-map (λ (x : Routed). x.row) (via f) (routed t) ∙ routed_rows_are_the_rows t
routed_rows_are_the_rows (both t u) = rw (map-append, routed_rows_are_the_rows t, routed_rows_are_the_rows u)
routed_rows_are_the_rows cut = refl

-- and their numbers are the numbers
pub routed_numbers_are_the_numbers : (t : Sight) → row_numbers (routed t) ≡ numbers t
unfolding row_numbers
routed_numbers_are_the_numbers t = ap written (routed_rows_are_the_rows t) ∙ sym (numbers_are_the_rows t)

-- ---- the way to a row

-- the row's own face is on it
pub face_is_on_the_way : (x : Routed) → At x.row.face (way x) (length x.route + zero)
unfolding way
face_is_on_the_way x = second_joined x.route first

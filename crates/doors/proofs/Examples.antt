-- Shutting, computed: document 01's plan Q.
use mathlib.Core.List.{List, [], ◌∷◌}
use mathlib.Core.Path.{◌≡◌, refl}
use Prim.Native.Nat.{ℕ}
use lib.IntN.{pos}
use Rattle.plane.specs.Side.{Point, side}
use Rattle.limits.specs.Limits.{triangles}
use Rattle.cells.specs.Least.{least}
use Rattle.cells.specs.Lists.{home, next, start, neighbour, answers, back}
use Rattle.cells.specs.Cut.{cell_of, cut_triangles, cut, pairs, faces_of, firsts_from, tables, cells_of}
use Rattle.cells.specs.PlanQ.{corners_of_Q, cells_of_Q, doors_of_Q}
use Rattle.cells.specs.Check.{names}
use Rattle.setting.specs.Setting.{shut, bars, ends}
use Rattle.reach.specs.Reach.{out_of_reach, far}
use Rattle.stand.specs.declared.locate.Footing.TheVariants.{Inside}
use Rattle.fan.specs.Sight.{fan, follow, sides, lines_around, unentered, lines_seen, seen_from}
use Rattle.runs.specs.Route.{Routed, routed}
use Rattle.runs.specs.Door.{is_door, crosses, side_seen, before, same_to_door}
use Rattle.runs.specs.Shutting.{last, joined, pieces, is_run, door_row, shut_piece, shut_rows}
use Rattle.runs.proofs.Examples.{listed}
use Rattle.sight.specs.Listing.{placed, sight_from}

-- plan Q, and the stand (6,3) in its cell 0
abbrev q : Point
q = record { x = pos 6; y = pos 3 }

abbrev seen : ℕ → List Routed
seen w = routed (sight_from corners_of_Q (cells_of triangles cells_of_Q) doors_of_Q w 0 q (Inside 0))

pub plan_Q_open : seen 0 ≡ listed 0 0 1 [] ∷ listed 1 1 2 [] ∷ listed 4 2 3 (2 ∷ []) ∷ listed 5 3 0 (2 ∷ []) ∷ []
unfolding routed seen_from lines_around unentered lines_seen sides follow fan ends out_of_reach far bars names shut least back answers home neighbour start next placed side cells_of cut cut_triangles cell_of pairs faces_of firsts_from tables
plan_Q_open = refl

pub plan_Q_shut : seen 1 ≡ listed 0 0 1 [] ∷ listed 1 1 2 [] ∷ listed 2 2 0 [] ∷ []
unfolding routed seen_from lines_around unentered lines_seen sides follow fan ends out_of_reach far bars names shut least back answers home neighbour start next placed side cells_of cut cut_triangles cell_of pairs faces_of firsts_from tables
plan_Q_shut = refl

pub shutting_the_door_of_plan_Q : shut_rows 2 3 (listed 0 0 1 [] ∷ listed 1 1 2 [] ∷ listed 4 2 3 (2 ∷ []) ∷ listed 5 3 0 (2 ∷ []) ∷ []) ≡ listed 0 0 1 [] ∷ listed 1 1 2 [] ∷ listed 2 2 0 [] ∷ []
unfolding is_door crosses side_seen before same_to_door last joined pieces is_run door_row shut_piece shut_rows
shutting_the_door_of_plan_Q = refl

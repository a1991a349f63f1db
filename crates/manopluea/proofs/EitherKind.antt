-- A plan of triangles is answered alike in either kind (document 02, A14): the same reply, rows and crossings from the list of kind 2 and from the list of
-- kind 12 of the same cells, and the same for check, finding, door change and a morning's stands.
use mathlib.Core.Bool.{Bool, not, ◌&&◌}
use mathlib.Core.List.{List}
use mathlib.Core.Path.{◌≡◌, ap, ap₂, sym, ◌∙◌, fun_ext}
use Prim.Native.Nat.{ℕ, ◌*◌, ◌%◌}
use lib.Dec.{eqb, ltb}
use lib.ListN.{length, take, replicate}
use lib.IntN.{ℤ}
use lib.Ieee.{Float}
use Rattle.limits.specs.Limits.{most_stands, triangles, polygons}
use Rattle.limits.specs.declared.Refusal.TheVariants.{Frame, Setting, Room}
use Rattle.cells.specs.Lists.{Cells, corner_count}
use Rattle.cells.specs.Cut.{Cell, Cut, cut, is_whole, as_polygons, cells_of}
use Rattle.cells.specs.Cut.Cut.{whole}
use Rattle.cells.specs.Check.{framed, refuse_if, checked_cells, checked}
use Rattle.cells.proofs.Cuts.{triangles_in_either_kind, same_tables_in_either_kind}
use Rattle.stand.specs.Find.{with_plan, found}
use Rattle.stand.specs.declared.spot.Stand.{Stand}
use Rattle.sight.specs.Listing.{view_of_plan, viewed, listed_from, listed}
use Rattle.reach.specs.Reach.{range}
use Rattle.sight.specs.declared.view.Query.{Query}
use Rattle.sight.specs.Ceiling.{up_to, listed_up_to}
use Rattle.tablet.specs.Drawing.{drawn_from, drawn}
use Rattle.doors.specs.Change.{changed_from, changed}
use Rattle.setting.specs.Setting.{wrong_setting}
use Rattle.grant.specs.Asked.{too_many, no_room, then_asked, asked}
use Rattle.morning.specs.declared.Morning.{Morning}
use Rattle.morning.specs.Morning.{query_of, single, stands_from, listed_stands}
use Rattle.sight.specs.declared.list.Counts.{Counts}
use Rattle.limits.specs.declared.Plan.{Plan}
use Rattle.limits.specs.declared.Refusal.{Refusal}
use Rattle.sight.specs.declared.view.View.{View}
use Rattle.std.specs.Prelude.{Ok, Option, Result}

-- two lists of cells, each in its kind, that are the same cells and are framed alike
module _ (k l : ℕ) (ts us : List ℕ) (cells : cells_of k ts ≡ cells_of l us) (alike : (cs : List ℤ) → framed k cs ts ≡ framed l cs us) where
  same_check : (cs : List ℤ) (ds : List ℕ) → checked k cs ts ds ≡ checked l cs us ds
  unfolding checked
  same_check cs ds = ap₂ (λ (b : Bool) (T : Cells). refuse_if (not b) Frame (checked_cells cs T ds)) (alike cs) cells

  same_finding : (cs : List ℤ) (ds : List ℕ) (w : ℕ) (s : Stand) → found k cs ts ds w s ≡ found l cs us ds w s
  unfolding found
  same_finding cs ds w s = ap₂ (λ (T : Cells) (r : Result Plan Refusal). with_plan cs T ds w s r) cells (same_check cs ds)

  same_view : (cs : List ℤ) (ds : List ℕ) (a : Query) → viewed k cs ts ds a ≡ viewed l cs us ds a
  unfolding viewed
  same_view cs ds a = ap₂ (λ (T : Cells) (r : Result Plan Refusal). view_of_plan cs T ds a r) cells (same_check cs ds)

  same_listing : (cs : List ℤ) (ds : List ℕ) (a : Query) (table : List ℕ) → listed k cs ts ds a table ≡ listed l cs us ds a table
  unfolding listed
  same_listing cs ds a table = ap₂ (λ (T : Cells) (v : Result View Refusal). listed_from cs T ds a.setting (range a.reach) table v) cells (same_view cs ds a)

  same_listing_up_to : (cs : List ℤ) (ds : List ℕ) (a : Query) (c : Option ℕ) (table : List ℕ) → listed_up_to k cs ts ds a c table ≡ listed_up_to l cs us ds a c table
  unfolding listed_up_to
  same_listing_up_to cs ds a c table = ap (up_to c table) (same_listing cs ds a table)

  same_drawing : (cs : List ℤ) (ds : List ℕ) (a : Query) (lent : List Float) → drawn k cs ts ds a lent ≡ drawn l cs us ds a lent
  unfolding drawn
  same_drawing cs ds a lent = ap₂ (λ (T : Cells) (v : Result View Refusal). drawn_from cs T ds a.setting (range a.reach) lent v) cells (same_view cs ds a)

  same_change : (cs : List ℤ) (ds : List ℕ) (a : Query) (given : List ℕ) (i : ℕ) (b : Bool) (table : List ℕ) → changed k cs ts ds a given i b table ≡ changed l cs us ds a given i b table
  unfolding changed
  same_change cs ds a given i b table = ap₂ (λ (T : Cells) (v : Result View Refusal). changed_from cs T ds a.setting (range a.reach) given i b table v) cells (same_view cs ds a)

  same_asking : (cs : List ℤ) (ds : List ℕ) (w n room places : ℕ) → asked k cs ts ds w n room places ≡ asked l cs us ds w n room places
  unfolding asked
  same_asking cs ds w n room places =
      ap₂ (λ (b : Bool) (r : Result Plan Refusal). refuse_if (ltb most_stands n) (too_many b) (then_asked r (λ p. refuse_if (wrong_setting w (length ds)) Setting (refuse_if (no_room (corner_count cs) n room places) Room (Ok p))))) (alike cs) (same_check cs ds)

  same_morning : (cs : List ℤ) (ds : List ℕ) (m : Morning) (stands : List Stand) (table replies : List ℕ) → listed_stands k cs ts ds m stands table replies ≡ listed_stands l cs us ds m stands table replies
  unfolding listed_stands single
  same_morning cs ds m stands table replies =
      ap₂ (λ (listing : Stand → Result Counts Refusal × List ℕ) (r : Result Plan Refusal). stands_from listing (take m.count stands) table replies r)
      (fun_ext (λ s. same_listing_up_to cs ds (query_of m s) m.ceiling (replicate (4 * corner_count cs) 0)))
      (same_asking cs ds m.setting m.count (length table) (length replies))

-- the same answers to every call that takes the lists of a plan
pub record SameAnswers (ts us : List ℕ) : Type 0 where
  pub check : (cs : List ℤ) (ds : List ℕ) → checked triangles cs ts ds ≡ checked polygons cs us ds
  pub find : (cs : List ℤ) (ds : List ℕ) (w : ℕ) (s : Stand) → found triangles cs ts ds w s ≡ found polygons cs us ds w s
  pub list : (cs : List ℤ) (ds : List ℕ) (a : Query) (c : Option ℕ) (table : List ℕ) → listed_up_to triangles cs ts ds a c table ≡ listed_up_to polygons cs us ds a c table
  pub draw : (cs : List ℤ) (ds : List ℕ) (a : Query) (lent : List Float) → drawn triangles cs ts ds a lent ≡ drawn polygons cs us ds a lent
  pub change : (cs : List ℤ) (ds : List ℕ) (a : Query) (given : List ℕ) (i : ℕ) (b : Bool) (table : List ℕ) → changed triangles cs ts ds a given i b table ≡ changed polygons cs us ds a given i b table
  pub list_stands : (cs : List ℤ) (ds : List ℕ) (m : Morning) (stands : List Stand) (table replies : List ℕ) → listed_stands triangles cs ts ds m stands table replies ≡ listed_stands polygons cs us ds m stands table replies

-- the same frame
framed_alike : (ts : List ℕ) (cells : List Cell) → cut triangles ts ≡ whole cells → (cs : List ℤ) → framed triangles cs ts ≡ framed polygons cs (as_polygons cells)
unfolding framed
framed_alike ts cells e cs = ap (λ (c : Cut). eqb (length cs % 2) 0 && is_whole c) (e ∙ sym (triangles_in_either_kind ts cells e))

-- whichever triangles a list of kind 2 is cut into, the list of kind 12 of those cells is answered as it is
pub triangles_are_answered_alike : (ts : List ℕ) (cells : List Cell) → cut triangles ts ≡ whole cells → SameAnswers ts (as_polygons cells)
triangles_are_answered_alike ts cells e =
    let us = as_polygons cells in
    let same = same_tables_in_either_kind ts cells e in
    let alike = framed_alike ts cells e in
    record {
      check = same_check triangles polygons ts us same alike;
      find = same_finding triangles polygons ts us same alike;
      list = same_listing_up_to triangles polygons ts us same alike;
      draw = same_drawing triangles polygons ts us same alike;
      change = same_change triangles polygons ts us same alike;
      list_stands = same_morning triangles polygons ts us same alike;
    }

-- What each public call replies, in numbers (document 01, "Reply numbers"; document 02): number, place and values, with what stands in the lent memory at exit.
use Rattle.std.specs.Prelude.{Bool, List, ℕ, ℤ, Float, Option}
use Rattle.cells.specs.Check.{checked}
use Rattle.limits.specs.Reply.{Reply, checked_reply}
use Rattle.planfile.specs.Calls as File
use Rattle.planfile.specs.Reply.{read_numbers}
use Rattle.stand.specs.Find.{found}
use Rattle.stand.specs.Reply.{found_reply}
use Rattle.stand.specs.declared.spot.Stand.{Stand}
use Rattle.sight.specs.declared.view.Query.{Query}
use Rattle.sight.specs.Ceiling.{listed_up_to}
use Rattle.sight.specs.Reply.{listed_reply}
use Rattle.tablet.specs.Drawing.{drawn}
use Rattle.doors.specs.Change.{changed}
use Rattle.morning.specs.declared.Morning.{Morning}
use Rattle.morning.specs.Morning.{listed_stands}

-- an answer and lent memory, the answer in numbers. Where a call takes the three lists of a plan, the caller says first which kind the list of cells is in
abbrev pub in_numbers : {A M : Type 0} → (A → Reply) → A × M → Reply × M
in_numbers reply p = (reply p.0, p.1)

abbrev pub check_replies : ℕ → List ℤ → List ℕ → List ℕ → Reply
check_replies kind cs ts ds = checked_reply (checked kind cs ts ds)

abbrev pub read_replies : List ℕ → List ℤ → List ℕ → List ℕ → Reply × (List ℤ × (List ℕ × List ℕ))
read_replies file corners cells doors = in_numbers read_numbers (File.read file corners cells doors)

abbrev pub write_replies : ℕ → List ℤ → List ℕ → List ℕ → List ℕ → Reply × List ℕ
write_replies kind cs ts ds file = in_numbers checked_reply (File.written kind cs ts ds file)

abbrev pub find_replies : ℕ → List ℤ → List ℕ → List ℕ → ℕ → Stand → Reply
find_replies kind cs ts ds w s = found_reply (found kind cs ts ds w s)

abbrev pub list_replies : ℕ → List ℤ → List ℕ → List ℕ → Query → Option ℕ → List ℕ → Reply × List ℕ
list_replies kind cs ts ds a c table = in_numbers listed_reply (listed_up_to kind cs ts ds a c table)

abbrev pub draw_replies : ℕ → List ℤ → List ℕ → List ℕ → Query → List Float → Reply × List Float
draw_replies kind cs ts ds a lent = in_numbers listed_reply (drawn kind cs ts ds a lent)

abbrev pub change_replies : ℕ → List ℤ → List ℕ → List ℕ → Query → List ℕ → ℕ → Bool → List ℕ → Reply × List ℕ
change_replies kind cs ts ds a given i b table = in_numbers listed_reply (changed kind cs ts ds a given i b table)

abbrev pub list_stands_replies : ℕ → List ℤ → List ℕ → List ℕ → Morning → List Stand → List ℕ → List ℕ → Reply × (List ℕ × List ℕ)
list_stands_replies kind cs ts ds m stands table replies = in_numbers listed_reply (listed_stands kind cs ts ds m stands table replies)

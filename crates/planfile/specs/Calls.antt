-- What the two calls reply, and what they leave in the lent memory (document 01, "Reply numbers"; document 02, A14).
use Rattle.std.specs.Prelude.{Bool, true, false, not, ◌&&◌, List, ℕ, leb, length, ℤ, Err, Ok, Result}
use Rattle.std.proofs.lemmas.List.Edits.{sets}
use Rattle.cells.specs.Check.{checked, refuse_if}
use Rattle.limits.specs.declared.Refusal.TheVariants.{Frame, Room}
use Rattle.records.specs.Record.{framed}
use Rattle.planfile.specs.File.{file_of, corners_in, cells_in, doors_in, kind_in}
use Rattle.limits.specs.declared.Plan.{Plan}
use Rattle.planfile.specs.declared.ReadPlan.{ReadPlan}
use Rattle.limits.specs.declared.Refusal.{Refusal}

-- what was accepted is refused where there is no room for it
abbrev pub given_room : Bool → Result Plan Refusal → Result Plan Refusal
given_room true (Ok p) = Ok p
given_room true (Err r) = Err r
given_room false (Ok p) = Err Room
given_room false (Err r) = Err r

-- lent memory at exit: on acceptance it is written from its beginning, on a refusal it keeps its contents
abbrev pub left_by {ℓ} : {A : Type ℓ} → Result Plan Refusal → List A → List A → List A
left_by (Ok p) old new = sets old 0 new
left_by (Err r) old new = old

-- ---- the writer: the list of cells is of kind k

unfoldable pub written_reply : ℕ → List ℤ → List ℕ → List ℕ → ℕ → Result Plan Refusal
written_reply k cs ts ds room = given_room (leb (length (file_of k cs ts ds)) room) (checked k cs ts ds)

-- the reply, and the lent file at exit
abbrev pub written : ℕ → List ℤ → List ℕ → List ℕ → List ℕ → Result Plan Refusal × List ℕ
written k cs ts ds file =
    let reply = written_reply k cs ts ds (length file) in
    (reply, left_by reply file (file_of k cs ts ds))

-- ---- the reader

-- three lists have room in lists of n, m and l numbers
abbrev pub has_room : List ℤ → List ℕ → List ℕ → ℕ → ℕ → ℕ → Bool
has_room cs ts ds n m l = leb (length cs) n && leb (length ts) m && leb (length ds) l

-- the check of three lists that are to go there
abbrev pub lists_checked : ℕ → List ℤ → List ℕ → List ℕ → ℕ → ℕ → ℕ → Result Plan Refusal
lists_checked k cs ts ds n m l = given_room (has_room cs ts ds n m l) (checked k cs ts ds)

-- the check of a file whose lists are to go there
unfoldable pub file_checked : List ℕ → ℕ → ℕ → ℕ → Result Plan Refusal
file_checked s n m l = refuse_if (not (framed s)) Frame (lists_checked (kind_in s) (corners_in s) (cells_in s) (doors_in s) n m l)

-- an acceptance is told with the kind of the list of cells, and how many numbers it has
abbrev pub told : ℕ → ℕ → Result Plan Refusal → Result ReadPlan Refusal
told k m (Ok p) = Ok (record { counts = p; kind = k; numbers = m })
told k m (Err r) = Err r

-- the reply to a file: FRAME, the check of its lists, and room for them
abbrev pub read_reply : List ℕ → ℕ → ℕ → ℕ → Result ReadPlan Refusal
read_reply s n m l = told (kind_in s) (length (cells_in s)) (file_checked s n m l)

-- the lists that were lent for three lists, at exit
abbrev pub lists_left : Result Plan Refusal → List ℤ → List ℕ → List ℕ → List ℤ → List ℕ → List ℕ → List ℤ × (List ℕ × List ℕ)
lists_left reply cs ts ds corners cells doors = (left_by reply corners cs, (left_by reply cells ts, left_by reply doors ds))

-- the reply, and the lent lists at exit
abbrev pub read : List ℕ → List ℤ → List ℕ → List ℕ → Result ReadPlan Refusal × (List ℤ × (List ℕ × List ℕ))
read s corners cells doors =
    let reply = file_checked s (length corners) (length cells) (length doors) in
    (told (kind_in s) (length (cells_in s)) reply, lists_left reply (corners_in s) (cells_in s) (doors_in s) corners cells doors)

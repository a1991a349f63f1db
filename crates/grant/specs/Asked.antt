-- What a call of several stands is refused for (document 02, A1), before any stand is looked at.
use Rattle.std.specs.Prelude.{Bool, true, false, ◌||◌, List, ◌≡◌, ℕ, ◌*◌, ltb, length, ℤ, Err, Ok, Result}
use Rattle.limits.specs.Limits.{most_stands}
use Rattle.limits.specs.declared.Plan.{Plan}
use Rattle.limits.specs.declared.Refusal.{Refusal}
use Rattle.limits.specs.declared.Refusal.TheVariants.{Frame, Size, Setting, Room}
use Rattle.cells.specs.Lists.{corner_count}
use Rattle.cells.specs.Check.{framed, refuse_if, checked}
use Rattle.checking.specs.Sizes.{sizes_of}
use Rattle.setting.specs.Setting.{wrong_setting}
use Rattle.draw.specs.declared.Sizes.{Sizes}

-- more than 32 stands are SIZE, where the plan's lists are not FRAME
abbrev pub too_many : Bool → Refusal
too_many true = Size
too_many false = Frame

-- the counts of cells and faces, which say how much room a call of n stands needs, or its FRAME or SIZE
unfoldable pub sizes_asked : ℕ → List ℤ → List ℕ → List ℕ → ℕ → Result Sizes Refusal
sizes_asked k cs ts ds n = elim (ltb most_stands n) [ true ↦ Err (too_many (framed k cs ts)) | false ↦ sizes_of k cs ts ds ]

-- a table below 4·corners·stands numbers, or fewer than 3·stands places for the replies
abbrev pub no_room : ℕ → ℕ → ℕ → ℕ → Bool
no_room corners n room places = ltb room (4 * corners * n) || ltb places (3 * n)

-- an accepted plan is asked further
abbrev pub then_asked : Result Plan Refusal → (Plan → Result Plan Refusal) → Result Plan Refusal
then_asked (Ok p) more = more p
then_asked (Err r) more = Err r

-- 1 to 6, 17, 7 and 11 in order, or the counts of the plan; the cells are in a list of kind k, n is the number of stands, room and places are the lengths
-- of table and replies
unfoldable pub asked : ℕ → List ℤ → List ℕ → List ℕ → ℕ → ℕ → ℕ → ℕ → Result Plan Refusal
asked k cs ts ds w n room places =
    refuse_if (ltb most_stands n) (too_many (framed k cs ts))
    (then_asked (checked k cs ts ds)
    (λ p. refuse_if (wrong_setting w (length ds)) Setting
    (refuse_if (no_room (corner_count cs) n room places) Room
    (Ok p))))

-- the call is granted: it is refused for no reason
pub record Granted (k : ℕ) (cs : List ℤ) (ts ds : List ℕ) (w n room places : ℕ) : Type 0 where
  pub plan : Plan
  pub accepted : asked k cs ts ds w n room places ≡ Ok plan

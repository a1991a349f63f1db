-- Request A2 of document 02: what a drawing is of the listing, and when a corner is too far for it.
use Rattle.std.specs.Prelude.{true, false, List, ◌⊎◌, ◌≡◌, ℕ, ◌+◌, ◌*◌, ◌<◌, get_or, drop, ℤ, nat_abs, Float, Err, Ok, Some}
use Rattle.std.specs.Float.{nan}
use Rattle.plane.specs.Side.{Point}
use Rattle.limits.specs.Limits.{most_offset}
use Rattle.limits.specs.declared.Refusal.{Refusal}
use Rattle.limits.specs.declared.Refusal.TheVariants.{Room, Far}
use Rattle.number.specs.Whole.{Is, minus_zero}
use Rattle.stand.specs.Spot.{stood}
use Rattle.fan.specs.Sight.{Row}
use Rattle.fan.specs.Written.{row_at}
use Rattle.sight.specs.Listing.{seen, no_room, listed}
use Rattle.sight.specs.declared.view.Query.{Query}
use Rattle.tablet.specs.Drawing.{drawn}

-- number i of a list is exactly the whole number z, and it is no minus zero
pub record Drawn (list : List Float) (i : ℕ) (z : ℤ) : Type 0 where
  pub is : Is (get_or list i nan) z
  pub no_minus_zero : get_or list i nan ≡ minus_zero → ⊥

-- four numbers from 4·i on are the offsets of a row's right limit and of its left limit from q
pub record RowDrawn (cs : List ℤ) (q : Point) (r : Row) (list : List Float) (i : ℕ) : Type 0 where
  pub right_x : Drawn list (4 * i) (seen cs q r.right).x
  pub right_y : Drawn list (4 * i + 1) (seen cs q r.right).y
  pub left_x : Drawn list (4 * i + 2) (seen cs q r.left).x
  pub left_y : Drawn list (4 * i + 3) (seen cs q r.left).y

-- further than 16,777,216 mm in either axis
abbrev pub TooFar : Point → Type 0
TooFar d = (most_offset < nat_abs d.x) ⊎ (most_offset < nat_abs d.y)

-- the row names such a corner
abbrev pub NamesTooFar : List ℤ → Point → Row → Type 0
NamesTooFar cs q r = TooFar (seen cs q r.right) ⊎ TooFar (seen cs q r.left)

module _ (kind : ℕ) (cs : List ℤ) (ts ds : List ℕ) (a : Query) where
  -- n rows of a table, drawn from the very point that the stand is; beyond them the list is as it was
  pub record RowsDrawn (n : ℕ) (table : List ℕ) (before after : List Float) : Type 0 where
    pub x : ℤ
    pub y : ℤ
    pub the_stand : stood cs a.stand ≡ Some (x, y)
    pub row : (i : ℕ) → i < n → RowDrawn cs (record { x = x; y = y }) (row_at table i) after i
    pub beyond : drop (4 * n) after ≡ drop (4 * n) before

  -- a drawing into a list, beside a listing into any table that has room
  pub record DrawsTheListing (before : List Float) (table : List ℕ) : Type 0 where
    -- whenever it replies rows, the listing replies the same counts, and its rows are drawn in their order
    pub as_listed : (n c : ℕ) (after : List Float) → drawn kind cs ts ds a before ≡ (Ok (record { rows = n; crossings = c }), after) → (listed kind cs ts ds a table).0 ≡ Ok (record { rows = n; crossings = c })
    pub rows : (n c : ℕ) (after : List Float) → drawn kind cs ts ds a before ≡ (Ok (record { rows = n; crossings = c }), after) → RowsDrawn n (listed kind cs ts ds a table).1 before after
    -- what the listing refuses, it refuses
    pub refused_as_listed : {r : Refusal} → (listed kind cs ts ds a table).0 ≡ Err r → drawn kind cs ts ds a before ≡ (Err r, before)
    -- of what the listing lists: a short list is ROOM
    pub room_first : {n c : ℕ} → (listed kind cs ts ds a table).0 ≡ Ok (record { rows = n; crossings = c }) → no_room cs before ≡ true → drawn kind cs ts ds a before ≡ (Err Room, before)
    -- with room, one row that names a corner too far is FAR
    pub too_far : {n c : ℕ} → (listed kind cs ts ds a table).0 ≡ Ok (record { rows = n; crossings = c }) → no_room cs before ≡ false → (x y : ℤ) → stood cs a.stand ≡ Some (x, y) → (i : ℕ) → i < n → NamesTooFar cs (record { x = x; y = y }) (row_at (listed kind cs ts ds a table).1 i) → drawn kind cs ts ds a before ≡ (Err Far, before)
    -- and where no row does it is drawn, wherever other corners are
    pub near_enough : {n c : ℕ} → (listed kind cs ts ds a table).0 ≡ Ok (record { rows = n; crossings = c }) → no_room cs before ≡ false → (x y : ℤ) → stood cs a.stand ≡ Some (x, y) → ((i : ℕ) → i < n → NamesTooFar cs (record { x = x; y = y }) (row_at (listed kind cs ts ds a table).1 i) → ⊥) → (drawn kind cs ts ds a before).0 ≡ Ok (record { rows = n; crossings = c })

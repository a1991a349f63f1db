-- Request A13 of document 02: what a ceiling of crossings does to a listing, and what it leaves as it is.
use Rattle.std.specs.Prelude.{List, ◌≡◌, ℕ, ◌<◌, ◌≤◌, ℤ, Err, None, Ok, Some}
use Rattle.limits.specs.declared.Refusal.{Refusal}
use Rattle.limits.specs.declared.Refusal.TheVariants as No
use Rattle.sight.specs.Listing.{listed}
use Rattle.sight.specs.Ceiling.{listed_up_to}
use Rattle.sight.specs.declared.view.Query.{Query}

module _ (kind : ℕ) (cs : List ℤ) (ts ds : List ℕ) (a : Query) (table : List ℕ) where
  -- the listing with the ceiling n
  pub record KeepsTo (n : ℕ) : Type 0 where
    -- crossings that exceed it are refused, and the table is as it was
    pub exceeding : {rows k : ℕ} {t : List ℕ} → listed kind cs ts ds a table ≡ (Ok (record { rows = rows; crossings = k }), t) → n < k → listed_up_to kind cs ts ds a (Some n) table ≡ (Err No.Ceiling, table)
    -- as many as the ceiling, or fewer, are allowed
    pub allowed : {rows k : ℕ} {t : List ℕ} → listed kind cs ts ds a table ≡ (Ok (record { rows = rows; crossings = k }), t) → k ≤ n → listed_up_to kind cs ts ds a (Some n) table ≡ (Ok (record { rows = rows; crossings = k }), t)
    -- every other refusal goes before it
    pub refused_before : {r : Refusal} {t : List ℕ} → listed kind cs ts ds a table ≡ (Err r, t) → listed_up_to kind cs ts ds a (Some n) table ≡ (Err r, t)
    -- where it is not refused for the ceiling, reply and table are those without one
    pub otherwise : ((listed_up_to kind cs ts ds a (Some n) table).0 ≡ Err No.Ceiling → ⊥) → listed_up_to kind cs ts ds a (Some n) table ≡ listed kind cs ts ds a table
    -- a higher ceiling, or none, does not alter a list already given
    pub higher : {rows k : ℕ} {t : List ℕ} → listed_up_to kind cs ts ds a (Some n) table ≡ (Ok (record { rows = rows; crossings = k }), t) → (m : ℕ) → n ≤ m → listed_up_to kind cs ts ds a (Some m) table ≡ (Ok (record { rows = rows; crossings = k }), t)
    pub none : {rows k : ℕ} {t : List ℕ} → listed_up_to kind cs ts ds a (Some n) table ≡ (Ok (record { rows = rows; crossings = k }), t) → listed_up_to kind cs ts ds a None table ≡ (Ok (record { rows = rows; crossings = k }), t)

  -- where no ceiling is stated it is the listing of before, and never refused for one
  pub record AsWithout : Type 0 where
    pub same : listed_up_to kind cs ts ds a None table ≡ listed kind cs ts ds a table
    pub never : (listed kind cs ts ds a table).0 ≡ Err No.Ceiling → ⊥

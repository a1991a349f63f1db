-- What was written into a text, and where it ends.
use Rattle.std.specs.Prelude.{List, ◌≡◌, ℕ, ◌+◌, ◌≤◌, length}
use Rattle.std.proofs.lemmas.List.Edits.{sets}

-- the text `new` is `old` with these bytes from `at` on; they end at `end`, within the text
pub record Wrote (old : List ℕ) (at : ℕ) (bytes new : List ℕ) (end : ℕ) : Type 0 where
  pub is : new ≡ sets old at bytes
  pub ends : end ≡ at + length bytes
  pub fits : end ≤ length new

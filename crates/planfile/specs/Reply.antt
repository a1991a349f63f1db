-- The reader's answer in document 01's numbers ("Reply numbers"): on 0 the counts of corners, cells and doors, the kind of the list of cells, and how
-- many numbers that list has.
use Rattle.std.specs.Prelude.{List, [], ◌∷◌, ℕ, Result}
use Rattle.limits.specs.Reply.{Reply, reply_to}
use Rattle.planfile.specs.declared.ReadPlan.{ReadPlan}
use Rattle.limits.specs.declared.Refusal.{Refusal}

abbrev pub read_values : ReadPlan → List ℕ
read_values p = p.counts.corners ∷ p.counts.cells ∷ p.counts.doors ∷ p.kind ∷ p.numbers ∷ []

abbrev pub read_numbers : Result ReadPlan Refusal → Reply
read_numbers = reply_to read_values

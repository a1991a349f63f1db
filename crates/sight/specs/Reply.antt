-- The answer of listing and door change in document 01's numbers ("Reply numbers").
use Rattle.std.specs.Prelude.{List, [], ◌∷◌, ℕ, Result}
use Rattle.limits.specs.Reply.{Reply, reply_to}
use Rattle.sight.specs.declared.list.Counts.{Counts}
use Rattle.limits.specs.declared.Refusal.{Refusal}

-- row count and crossings
abbrev pub counts_values : Counts → List ℕ
counts_values n = n.rows ∷ n.crossings ∷ []

abbrev pub listed_reply : Result Counts Refusal → Reply
listed_reply = reply_to counts_values

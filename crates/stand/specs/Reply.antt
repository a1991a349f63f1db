-- Finding's answer in document 01's numbers ("Reply numbers").
use Rattle.std.specs.Prelude.{List, [], ◌∷◌, ℕ, Result}
use Rattle.limits.specs.Reply.{Reply, reply_to}
use Rattle.stand.specs.declared.locate.Footing.TheVariants.{Inside, Side}
use Rattle.stand.specs.declared.locate.Footing.{Footing}
use Rattle.limits.specs.declared.Refusal.{Refusal}

-- the stand's cell, then 0 and 0 where the stand is strictly inside it, or 1 and the number of its side where it is strictly within that side
abbrev pub footing_values : Footing → List ℕ
footing_values (Inside c) = c ∷ 0 ∷ 0 ∷ []
footing_values (Side c k) = c ∷ 1 ∷ k ∷ []

abbrev pub found_reply : Result Footing Refusal → Reply
found_reply = reply_to footing_values

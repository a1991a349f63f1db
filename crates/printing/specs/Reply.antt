-- The answer of printing in document 01's numbers ("Reply numbers"), with what stands in the lent text at exit.
use Rattle.std.specs.Prelude.{List, [], ◌∷◌, ℕ, Result}
use Rattle.limits.specs.Reply.{Reply, reply_to}
use Rattle.manopluea.specs.Calls.{in_numbers}
use Rattle.printing.specs.Print.{answered}
use Rattle.limits.specs.declared.Refusal.{Refusal}

-- how many bytes the lines take
abbrev pub text_values : ℕ → List ℕ
text_values n = n ∷ []

abbrev pub printed_reply : Result ℕ Refusal → Reply
printed_reply = reply_to text_values

abbrev pub print_replies : List ℕ → List ℕ → Reply × List ℕ
print_replies input text = in_numbers printed_reply (answered input text)

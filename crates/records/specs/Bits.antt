-- The 64 bits of eight bytes (document 01, "Printing program"): a setting, or a double.
use Rattle.std.specs.Prelude.{List, ℕ}
use Rattle.records.specs.Bytes.{number_at}

abbrev pub bits_at : List ℕ → ℕ → ℕ
bits_at s at = number_at 8 s at

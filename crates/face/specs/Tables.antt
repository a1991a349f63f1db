-- Cells in lent tables, and the sides of one of them.
use Rattle.cells.specs.Lists.{Cells, tabled}
use Rattle.face.specs.declared.Cells.{Cells as Lent}
use Rattle.std.specs.Prelude.{true, false, ℕ, suc, eqb}

-- the side after f of a cell whose sides are the faces from a on and before b: after the last the first
unfoldable pub around : ℕ → ℕ → ℕ → ℕ
around a b f = elim (eqb (suc f) b) [ true ↦ a | false ↦ suc f ]

-- the cells that lent tables describe
abbrev pub tables : Lent → Cells
tables t = tabled t.faces.now t.firsts.now

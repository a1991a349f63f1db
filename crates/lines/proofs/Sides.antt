-- The loop that draws the sides of one cell.
use mathlib.Core.List.{List, []}
use mathlib.Core.Path.{◌≡◌, sym, ap, ◌∙◌}
use Prim.Native.Nat.{ℕ, ◌+◌, ◌-◌, ◌<◌}
use Rattle.cells.specs.Lists.{Cells, cell_count, side_count, next, start}
use Rattle.cells.specs.Sound.{Numbered}
use Rattle.cells.proofs.Faces.{SideOf, side_exists, home_is}
use Rattle.lines.specs.Lined.{across, Drawn, with_face}
use Rattle.lines.proofs.Marks.{drawn_goes_on}

module _ {T : Cells} (N : Numbered T) {c f : ℕ} (h : c < cell_count T) (side : SideOf T c f) where
  pub side_drawn : {n x m : ℕ} → n ≡ next T f → x ≡ across T [] 0 f → m ≡ side_count T c - 2 → {ls : List ℕ} → Drawn T (across T [] 0) f ls → Drawn T (across T [] 0) (f + 1) (with_face ls f (start T n) x m n)
  side_drawn {n} {x} {m} is_next is_across is_more d =
      drawn_goes_on d (side_exists N h side) (start T n) x m n (ap (start T) is_next) is_across
      (is_more ∙ ap (λ (o : ℕ). side_count T o - 2) (sym (home_is N h side)))
      is_next

-- The limits of every row are corners.
use Prim.Native.Nat.{ℕ, ◌<◌}
use Rattle.plane.specs.Side.{Point}
use Rattle.fan.specs.Sight.{Floor, Sight, Row, Standing, lines_around, unentered, seen_from, rows}
use Rattle.fan.specs.Once.{At}
use Rattle.fan.proofs.Geometry.{Geometry, left_end_exists}
use Rattle.fan.proofs.Places.{at_no_place, at_the_only_place, either_list}
use Rattle.fan.proofs.Around.{Stands, around_the_stand}
use Rattle.fan.proofs.RowCounts.{over_lines}
use Rattle.fan.proofs.Tree.{Source, Grown, grown, in_sight}
use Rattle.fan.proofs.Tree.Grown.{ends, too_many, crosses, keeps, splits}

-- where every face starts at one of n corners
module _ {F : Floor} {N M : ℕ} {see : ℕ → Point} {cell : ℕ → ℕ} (G : Geometry F N M see cell) (n : ℕ) (corners : (f : ℕ) → f < N → F.right_end f < n) where
  abbrev Limited : Row → Type 0
  Limited w = (w.right < n) × (w.left < n)

  -- of a tree, where its own limits are
  limits_of_a_tree : {s : Source} {r l i : ℕ} {t : Sight} {w : Row} → Grown G s r l t → r < n → l < n → At w (rows t) i → Limited w
  unfolding rows
  limits_of_a_tree (ends s e) a b p = rw (at_the_only_place p) (a, b)
  limits_of_a_tree (too_many s) a b p = absurd (at_no_place p)
  limits_of_a_tree (crosses s free g) a b p = limits_of_a_tree g a b p
  limits_of_a_tree (keeps i g) a b p = limits_of_a_tree g a b p
  limits_of_a_tree (splits {t = t} i k g h) a b p =
      let v = left_end_exists G corners (in_sight G g).is_a_face in
      either_list (rows t) p (λ j q. limits_of_a_tree g a v q) (λ j q. limits_of_a_tree h v b q)

  -- of the rows seen from the stand
  pub row_limits_are_corners : {p : Standing} {i : ℕ} {w : Row} → Stands F N see p → At w (rows (seen_from F M p)) i → Limited w
  unfolding rows seen_from
  row_limits_are_corners {p} S q =
      let A = around_the_stand G S in
      over_lines F (λ t. (i : ℕ) (w : Row) → At w (rows t) i → Limited w)
      (λ t v a b i w p. either_list (rows t) p (λ j q. a j w q) (λ j q. b j w q))
      (unentered M p) (lines_around F p) A.some_line
      (λ x j a i w p.
      let s = A.in_sight x j a in
      limits_of_a_tree (grown G _ x _ _ s) (corners x s.is_a_face) (left_end_exists G corners s.is_a_face) p)
      _ _ q

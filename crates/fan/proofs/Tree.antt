-- How a tree of the expansion grows over a floor in the plane: the one induction that the laws of rows and of demand 2 go by.
use mathlib.Core.Bool.{Bool, true, false}
use mathlib.Core.Path.{◌≡◌, refl}
use Prim.Native.Nat.{ℕ, zero, suc}
use Rattle.plane.specs.Side.{Point}
use Rattle.fan.specs.Sight.{Floor, Sight, Row, follow, rows}
use Rattle.fan.specs.Sight.Sight.{row, pass, both, cut}
use Rattle.fan.specs.Walk.{Other}
use Rattle.fan.specs.Once.{At}
use Rattle.fan.proofs.Geometry.{Geometry, InSight}
use Rattle.fan.proofs.HandOn.{Parted, Hands, hands}
use Rattle.fan.proofs.HandOn.Hands.{last_part, one_part}
use Rattle.fan.proofs.Places.{at_no_place, at_the_only_place, either_list}
use Rattle.fan.proofs.Trees.{follow_a_wall, follow_too_far, follow_across}

-- what a tree is seen through
pub data Source : Type 0 where
  -- the line of face f
  a_line : ℕ → Source
  -- other sides of the cell entered through face g
  a_cell : ℕ → Source

module _ {F : Floor} {N M : ℕ} {see : ℕ → Point} {cell : ℕ → ℕ} (G : Geometry F N M see cell) where
  -- t is a tree seen between the limits r and l
  pub data Grown : Source → ℕ → ℕ → Sight → Type 0 where
    ends : {f r l : ℕ} → InSight G f r l → F.ends f ≡ true → Grown (a_line f) r l (row f r l (F.far f))
    too_many : {f r l : ℕ} → InSight G f r l → Grown (a_line f) r l cut
    crosses : {f r l : ℕ} {t : Sight} → InSight G f r l → F.ends f ≡ false → Grown (a_cell (F.back f)) r l t → Grown (a_line f) r l (pass f r l t)
    -- one side takes both limits
    keeps : {g e r l : ℕ} {t : Sight} → Other F g e → Grown (a_line e) r l t → Grown (a_cell g) r l t
    -- a side's left end strictly between the limits splits the cone
    splits :
        {g e r l : ℕ} {t u : Sight} → Other F g e → Parted see r l (F.left_end e) → Grown (a_line e) r (F.left_end e) t →
        Grown (a_cell g) (F.left_end e) l u → Grown (a_cell g) r l (both t u)

  pub in_sight : {f r l : ℕ} {t : Sight} → Grown (a_line f) r l t → InSight G f r l
  in_sight (ends s e) = s
  in_sight (too_many s) = s
  in_sight (crosses s e t₁) = s

  -- what is handed on grows, where each line does
  pub grown_from_parts :
      {on : ℕ → ℕ → ℕ → Sight} {g r l : ℕ} {t : Sight} → ((e r l : ℕ) → InSight G e r l → Grown (a_line e) r l (on e r l)) → Hands G on g r l t →
      Grown (a_cell g) r l t
  grown_from_parts lines (last_part p) = keeps p.other (lines _ _ _ p.in_sight)
  grown_from_parts lines (one_part c p h) = splits p.other c (lines _ _ _ p.in_sight) (grown_from_parts lines h)

  -- the expansion grows so
  pub grown : (k f r l : ℕ) → InSight G f r l → Grown (a_line f) r l (follow F k f r l)
  grown zero f r l s = by_end (F.ends f) refl
    where
      by_end : (b : Bool) → F.ends f ≡ b → Grown (a_line f) r l (follow F zero f r l)
      by_end true e = rw (follow_a_wall F zero f r l e) (ends s e)
      by_end false e = rw (follow_too_far F f r l e) (too_many s)
  grown (suc k) f r l s = by_end (grown k) (F.ends f) refl
    where
      by_end :
          ((f r l : ℕ) → InSight G f r l → Grown (a_line f) r l (follow F k f r l)) → (b : Bool) → F.ends f ≡ b →
          Grown (a_line f) r l (follow F (suc k) f r l)
      by_end below true e = rw (follow_a_wall F (suc k) f r l e) (ends s e)
      by_end below false e = rw (follow_across F k f r l e) (crosses s e (grown_from_parts below (hands G s e k)))

  -- a row's face is seen with the row's limits, ends the sight, and is in reach as the row says
  pub record RowSeen (w : Row) : Type 0 where
    pub in_sight : InSight G w.face w.right w.left
    pub ends : F.ends w.face ≡ true
    pub reached : w.far ≡ F.far w.face

  tree_row_is_seen : {s : Source} {r l i : ℕ} {t : Sight} {w : Row} → Grown s r l t → At w (rows t) i → RowSeen w
  unfolding rows
  tree_row_is_seen (ends s e) p = rw (at_the_only_place p) (record { in_sight = s; ends = e; reached = refl })
  tree_row_is_seen (too_many s) p = absurd (at_no_place p)
  tree_row_is_seen (crosses s free t₁) p = tree_row_is_seen t₁ p
  tree_row_is_seen (keeps i t₁) p = tree_row_is_seen t₁ p
  tree_row_is_seen (splits {t = t} i c t₁ t₂) p = either_list (rows t) p (λ k q. tree_row_is_seen t₁ q) (λ k q. tree_row_is_seen t₂ q)

  -- so is each row below a line
  pub row_is_seen : (k f r l : ℕ) → InSight G f r l → {i : ℕ} {w : Row} → At w (rows (follow F k f r l)) i → RowSeen w
  row_is_seen k f r l s p = tree_row_is_seen (grown k f r l s) p

-- What an entered cell hands on, in the words of document 02, A14: its other sides follow counter-clockwise from the right end, each with the part of the cone
-- that is not empty, and a corner on a limit does not replace it. Each side stands by itself against the two limits at entry.
use Rattle.std.specs.Prelude.{Bool, true, false, List, [], ◌∷◌, ◌++◌, ℕ, zero, suc, pos}
use Rattle.std.specs.Int.Signed.{lt_z}
use Rattle.plane.specs.Side.{Point}
use Rattle.plane.specs.Cone.{cross}
use Rattle.fan.specs.Sight.{Floor, Sight}
use Rattle.fan.specs.Sight.Sight.{both, cut}

-- a line to be followed: face, right limit, left limit
pub record Line : Type 0 where
  pub face : ℕ
  pub right : ℕ
  pub left : ℕ

-- `see c` is corner c less the stand
module _ (see : ℕ → Point) where
  -- corner v lies strictly left of the ray to corner u
  abbrev pub is_left_of : ℕ → ℕ → Bool
  is_left_of u v = lt_z (pos 0) (cross (see u) (see v))

  -- the more left of the right limit r and a side's right end a
  unfoldable pub more_left : ℕ → ℕ → ℕ
  more_left r a = elim (is_left_of r a) [ true ↦ a | false ↦ r ]

  -- the more right of the left limit l and a side's left end b
  unfoldable pub more_right : ℕ → ℕ → ℕ
  more_right l b = elim (is_left_of b l) [ true ↦ b | false ↦ l ]

  module _ (F : Floor) where
    -- the line of side e between r' and l', unless nothing is between them
    unfoldable pub line_between : ℕ → ℕ → ℕ → List Line
    line_between e r' l' = elim (is_left_of r' l') [ true ↦ record { face = e; right = r'; left = l' } ∷ [] | false ↦ [] ]

    -- the part of side e in the cone of r and l
    unfoldable pub part : ℕ → ℕ → ℕ → List Line
    part e r l = line_between e (more_left r (F.right_end e)) (more_right l (F.left_end e))

    -- the parts of side e and of the m sides after it, in their order
    unfoldable pub parts : ℕ → ℕ → ℕ → ℕ → List Line
    parts zero e r l = part e r l
    parts (suc m) e r l = part e r l ++ parts m (F.next e) r l

-- lines one behind the other; `on` follows a line
unfoldable pub joined : (ℕ → ℕ → ℕ → Sight) → List Line → Sight
joined on [] = cut
joined on (p ∷ []) = on p.face p.right p.left
joined on (p ∷ q ∷ ps) = both (on p.face p.right p.left) (joined on (q ∷ ps))

-- Stands from a list of doubles, three a stand: the corner, x and y (document 02, A1).
use Rattle.std.specs.Prelude.{true, false, List, [], ◌∷◌, ℕ, zero, suc, leb, pos, negsuc, Float, None, Option, Some, ℤ}
use Rattle.number.specs.Whole.{whole}
use Rattle.stand.specs.declared.spot.Stand.{Stand}
use Rattle.stand.specs.declared.spot.Stand.TheVariants.{Point, Offset}

-- the corner that no plan has: it stands for a first number that names none, so that the stand is refused
abbrev pub no_corner : ℕ
no_corner = 65535

-- −1 is a point, and u from 0 to 65535 the offset from corner u; any other first number names no corner
abbrev pub by_number : Option ℤ → Float → Float → Stand
by_number (Some (pos u)) x y = elim (leb u 65535) [ true ↦ Offset u x y | false ↦ Offset no_corner x y ]
by_number (Some (negsuc zero)) x y = Point x y
by_number (Some (negsuc (suc n))) x y = Offset no_corner x y
by_number None x y = Offset no_corner x y

-- the stand of a corner, x and y; minus zero reads as corner 0
unfoldable pub stand_of : Float → Float → Float → Stand
stand_of c x y = by_number (whole c) x y

-- the stands of a list; one or two numbers left over make no stand
unfoldable pub stands_of : List Float → List Stand
stands_of [] = []
stands_of (a ∷ []) = []
stands_of (a ∷ b ∷ []) = []
stands_of (a ∷ b ∷ c ∷ rest) = stand_of a b c ∷ stands_of rest

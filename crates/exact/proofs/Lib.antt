-- ℤ is a commutative ring: distributivity and associativity, which the library lacks
pub mod Ring
-- ℤ is an ordered ring: tests and what they decide, trichotomy, order with sums and products
pub mod Order
-- a ring solver: an equation is quoted, both sides become polynomials, and no term may be left
pub mod Solver
-- inequalities by certificates over the solver, as `tools/certificate.py` finds them
pub mod Certificate
-- a number that outweighs each of finitely many
pub mod Outweigh
-- machine numbers: a value within a bound fits its width and reads back as itself
pub mod Bounds
-- what `&&` and `||` say of their two sides
pub mod Truth
-- lent memory that is written from its beginning: what stands there then, and what is kept; runs of stores one behind the other
pub mod Lent

-- points and vectors, quoted for the solver and the certificates of `exact`
pub mod Quote
-- the laws of `tools/plane.laws`, with the certificates that a program found: not edited by hand
pub mod Found
-- laws of cones that go by cases on signs: the three cases of the hand-on, the split, the start in a triangle
pub mod Cones
-- the containment test: what each sign of a side value answers
pub mod Sides
-- whether a point is strictly within a side: by the side value, and by its ends, which lie in opposite directions
pub mod Within
-- differences of coordinates as the code has them, and their products
mod Differences

-- a right cell is a convex shape whose sides go round
pub mod Shapes
-- the test for two cells, both ways
pub mod Test
-- the pairs of a plan, and the least cell of any
pub mod Pairs
-- refused with 17 exactly if a pair overlaps and nothing before it applies
pub mod Refused
-- an accepted plan: no two cells overlap, and at most one holds a stand strictly
pub mod Plans

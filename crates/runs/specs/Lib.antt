-- rows with their routes
pub mod Route
-- a door by its two faces: crossed on a route or not, the side seen, the same up to the door
pub mod Door
-- shutting: each run becomes one row; the same on the tree, and the crossings left
pub mod Shutting
-- opening: each row on the door, or out of a shorter reach, becomes its run
pub mod Opening
-- two floors that differ in where sight ends: one door, open and shut; a longer reach and a shorter one
pub mod Floors
-- elements that stand in another list, in their order
pub mod Kept

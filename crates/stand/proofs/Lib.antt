-- points and offsets, by what the code read; an accepted stand is within the limits
pub mod Spots
-- where a point lies against a cell, by the side values of its sides
pub mod Against
-- the loop over the sides of a cell
mod Sides
-- the search for a free side that the stand is strictly within
mod Doorways
-- finding, way out by way out: what was found, and the reply
pub mod Finds
-- what each answer says of the stand, the cells and their sides; the cell found goes around the stand; a side that holds it
pub mod Located
-- the promise of finding leaves one reply, as does every promise that is an equation; a stand is one point, found at one place
pub mod Unique
-- cells are ruled out by their boxes
pub mod ByBox

-- going round a cell: its faces are numbered one after another
pub mod Round
-- the floor of an accepted plan has the geometry that the laws of sight ask for
pub mod PlanFloor
-- the listing of an accepted plan: nothing is cut, rows and crossings are few, and demand 2
pub mod Sightings
-- the code's tables describe the plan's floor
pub mod Lined
-- the sides of the stand's cell one behind the other
pub mod CellTree
-- the differences of corners and stand, and the loop that takes them
pub mod Corners
-- replies 1 to 11 or the stand and its cell, by what was found
pub mod Views
-- following lines with a ceiling of crossings
pub mod UpTo
-- the code's tables give the plan's own listing
pub mod Lister
-- what `list` writes is the listing's rows; the promise leaves one reply
pub mod Written

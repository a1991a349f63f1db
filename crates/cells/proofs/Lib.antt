-- a loop that seeks the least place: one step of it, and what it says of the places before
pub mod Least
-- searches over a range of places, as iterators run them
pub mod Searches
-- faces numbered in file order: the cell of a face, the next side, some face of a cell
pub mod Faces
-- a list cut into its cells: one cell at a time, there and back, in either kind
pub mod Cuts
-- the tables of cells: how long they are, one cell more, and faces numbered in file order
pub mod Tables
-- right and wrong neighbours, and the side that answers a face
pub mod Neighbours
-- a corner number exists or not, and a corner is right or wrong for a side
pub mod Cells
-- a door names a line or not
pub mod Doors
-- laws of right cells and of a sound plan, which all crates above use: counts, convex cells, the face on the other side, doors
pub mod Plans
-- a point strictly within a side is strictly left of every other side of the cell
pub mod Within
-- a point strictly within a line between two cells is strictly within no third one, unless cells overlap
pub mod ThirdLine
-- the check, way out by way out: what was found, and the reply
pub mod Checks
-- an accepted plan is sound, and the reply has its counts
pub mod Accepted
-- the promise of the check leaves one reply
pub mod Unique

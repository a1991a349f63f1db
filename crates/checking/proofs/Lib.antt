-- right and wrong cells, by what the code read
pub mod Cells
-- a cell with three sides: one side value decides
pub mod Triangles
-- the search over the sides of two cells, and the face on the other side where they meet
pub mod Meetings
-- right and wrong neighbours, by what the code read
pub mod Neighbours
-- the table of the faces on the other side, face by face
pub mod Backs
-- right and wrong doors, by what the code read
pub mod Doors
-- the counts of three lists: what was found, and what is known where they are counted
pub mod Measures
-- the tables that are lent, and what they hold of an accepted plan
pub mod Rooms
-- parts of room for every plan, as long as its counts say
pub mod Parts

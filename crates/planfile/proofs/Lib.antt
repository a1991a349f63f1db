-- a list that is cut into whole cells: its kind, its length, its numbers
pub mod CellLists
-- what is known of lists that the check accepts, and of a reply that asks for room
pub mod Accepts
-- the writer, way out by way out
pub mod Writes
-- lists handed over, way out by way out
pub mod Hands
-- where the records of a framed file lie, and how long its lists are
pub mod Places
-- the cells of a file counted where they stand
pub mod Counts
-- the reader, way out by way out
pub mod Decodes
-- the numbers of an accepted plan have room in their fields
pub mod Widths
-- the lists of the file of accepted lists are those lists
pub mod ListsBack
-- the file of a framed file's lists is that file
pub mod BytesBack
-- reading what was written, writing what was read; the reader accepts what can be written; one reply
pub mod RoundTrip
-- plan Q as a file, byte by byte
pub mod PlanQ

-- a table of the faces on the other side
pub mod Backed
-- the counts of three lists, or the refusal
pub mod Sizes

-- the floor of a plan, what is seen from a stand, and the listing: replies 1 to 11, or rows and crossings
pub mod Listing
-- the listing with a ceiling of crossings: reply 19
pub mod Ceiling
-- the corners seen from a stand, as the code has them
pub mod Seen
-- the lines around the stand over the code's tables
pub mod CellTree
-- the answer of listing and door change in document 01's numbers
pub mod Reply

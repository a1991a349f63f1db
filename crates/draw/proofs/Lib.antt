-- loops over the cells of a list: the cells passed so far
pub mod Passed
-- the counts of a list, by what it is cut into
pub mod Counts
-- loops that draw tables: the sides of one cell, and the cells drawn so far
pub mod Drawn
-- a loop over cells that knows its list number by number
pub mod Walked

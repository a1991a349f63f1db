-- cells whose boxes do not meet strictly are apart, and of two that overlap both reach to one side of every line
pub mod Boxed
-- two cells: cut off by a line, separated by a side, overlapping
pub mod Pairs
-- what a search has found, one pair and one cell more
pub mod Settled
-- a list taken apart by a line, and all cells
pub mod Halves

-- the expansion over any floor: the tree of rows, passages and splits, its numbers and its counts
pub mod Sight
-- the walk from cell to cell, without cones; when a row holds a direction
pub mod Walk
-- places of a list, and the one element that has a property
pub mod Once
-- rows as the numbers of a table, and the one row of a table that has a property
pub mod Written
-- what an entered cell hands on, each side by itself against the limits at entry
pub mod Plain

-- a cell's sides in the tables: the next one
pub mod Tables

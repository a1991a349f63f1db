-- how many cells and faces a list of cells has
pub mod Counted

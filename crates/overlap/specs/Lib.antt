-- what a search for overlapping cells has found
pub mod Search

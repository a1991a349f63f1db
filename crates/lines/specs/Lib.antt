-- the table of lines that the code draws of a plan under its setting
pub mod Lined

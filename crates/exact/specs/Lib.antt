-- a bound on the size of a whole number
pub mod Within

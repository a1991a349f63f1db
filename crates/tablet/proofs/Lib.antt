-- too far or not: the code's comparisons, and what the cast asks
pub mod Fars
-- the two loops over the rows of a table
pub mod Rows
-- what a drawing replies, by the listing's answer
pub mod Drawn
-- each number is exactly the difference, and where it stands
pub mod Numbers

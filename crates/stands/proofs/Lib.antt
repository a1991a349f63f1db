-- what a first number makes of a stand, and how many stands a list has
pub mod Numbered
-- the stand of the code's number, test by test
mod Tests
-- the array that the code fills, stand by stand
mod Filled

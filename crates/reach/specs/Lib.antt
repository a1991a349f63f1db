-- a line in reach, as document 02 says it and by its nearest point; what may be stated
pub mod Reach

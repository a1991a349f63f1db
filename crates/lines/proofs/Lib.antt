-- the loops that draw the table of lines: the faces so far, then the doors so far
pub mod Marks
-- one cell more is drawn, side by side
pub mod Sides

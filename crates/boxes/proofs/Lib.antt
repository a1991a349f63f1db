-- numbers of boxes as the code reads them back
pub mod Numbers
-- boxes that hold boxes, and the box of a cell, corner by corner
pub mod Cells
-- the table of boxes
pub mod Noted
-- lists of cells, and the part of one that is picked
pub mod Parts
-- what lies in a cell lies in its box
pub mod Inside

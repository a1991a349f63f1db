-- boxes, and what they hold
pub mod Boxes
-- lists of cells, and the part of one on one side of a line
pub mod Parts

-- what is printed for an input, and what the call leaves in the lent text
pub mod Print
-- the answer of printing in document 01's numbers
pub mod Reply

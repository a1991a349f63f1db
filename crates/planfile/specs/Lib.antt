-- the one file of three lists, and the three lists of a file
pub mod File
-- the replies of reader and writer, and what they leave in the lent memory
pub mod Calls
-- the reader's answer in document 01's numbers
pub mod Reply

-- a reply without room for seven numbers leaves all as it was; otherwise the numbers are put
mod Replies
-- several stands as a list of numbers
mod Numbered

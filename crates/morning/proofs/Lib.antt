-- one stand over the lines drawn: what following the lines around it asks, and what is written
pub mod OverLines
-- a listing in whatever table has room is the single listing
pub mod Single
-- one stand more: rows, replies and sums so far
pub mod Each
-- the whole call: refused, or the single listings one after another; one answer
pub mod Together

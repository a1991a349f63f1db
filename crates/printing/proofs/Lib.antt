-- a plan file read into lists: refused as the listing refuses it, or listed as its own lists are
pub mod Files
-- a listing has at most as many rows as the largest plan has corners, so its text has room
pub mod Listings
-- the answer, way out by way out; one reply
pub mod Answers
-- what document 01 says is printed, computed
pub mod Examples

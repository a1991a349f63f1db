-- the limits of a plan, and the number that means wall
pub mod Limits
-- answers in document 01's numbers: number, place, values
pub mod Reply

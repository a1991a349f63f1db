-- what each public call replies in document 01's numbers, and leaves in the lent memory
pub mod Calls
-- the table of replies, call by call: number, condition, place
pub mod Conditions
-- the three demands
pub mod Demands
-- a longer reach only refines
pub mod Longer
-- no reach stated: document 01's rows, with 0 after each
pub mod Unlimited
-- what a ceiling of crossings does to a listing
pub mod Ceilings
-- what a drawing is of the listing
pub mod Drawings
-- several stands in one call are single calls, one after another
pub mod Together
-- the twelve measured examples
pub mod Cases
-- a hall whose door is seen by two routes, side by side
pub mod Hall
-- wrong listings and wrong door changes
pub mod ShutOut

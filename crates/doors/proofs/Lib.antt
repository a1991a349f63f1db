-- A door of a plan, then the code.

-- a door of an accepted plan: its line changes, and no other
pub mod PlanDoors
-- a door whose line does not hold the stand leaves it where it stands
pub mod SameFooting
-- demand 3 of an accepted plan
pub mod PlanDemand3
-- shutting, computed: plan Q
pub mod Examples
-- the listing's definition is the tree's: rows, numbers, crossings
pub mod Fresh
-- the door's line as the code reads it
pub mod Underfoot
-- the code, way out by way out: when the given list is the true one, and the replies in order
pub mod Changes
-- what the change gives: from a true list a fresh listing, otherwise a refusal; one reply
pub mod Changed

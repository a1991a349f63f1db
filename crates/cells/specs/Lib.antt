-- the least place at which a test holds, and a place before an end
pub mod Least
-- corners, faces, neighbours, and the face on the other side
pub mod Lists
-- a list of cells of either kind, cut into its cells
pub mod Cut
-- the plan check
pub mod Check
-- where two cells meet
pub mod Meeting
-- what an accepted plan is known to be
pub mod Sound
-- plan Q
pub mod PlanQ
-- a table of the faces on the other side
pub mod Backed
-- two cells overlap
pub mod Overlap

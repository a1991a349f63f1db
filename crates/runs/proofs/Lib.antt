-- Routes and runs over any floor.

-- lists: mapped elements, and those that pass a test
pub mod Lists
-- rows with their routes are the rows, and the way to a row ends at its face
pub mod Routes
-- where a door stands on a route, by the first line of the route
pub mod Doors
-- what it is for two routes to be the same up to and including the door
pub mod SameToDoor
-- the tree cut at the door, and its crossings
pub mod Pruned
-- rows whose routes do not meet the door stay, in order
pub mod Untouched
-- one line followed with sight stopped at some faces and without: the one induction for shutting, opening and the reach
pub mod SideBySide
-- the tree with the door shut is the tree with it open, cut at the door
pub mod Shut
-- the rows without the stops are those with them, each row where sight is stopped replaced by its run
pub mod Opened
-- what is seen through lines fills their limits without a gap, from the right one to the left one
pub mod Through
-- rows cut into runs: every row in one piece, and one row for a run
pub mod Pieces
-- shutting run by run gives the rows of the tree cut at the door
pub mod Runs
-- no two rows have the same route and face
pub mod Ways
-- runs and rows on the shut door correspond one to one; different routes stay different rows
pub mod Visits
-- from one stand a door is seen from one side only, and no route meets it twice
pub mod SideSeen
-- demand 3 over any floor: all of this of one door, open and shut
pub mod Demand3
-- a longer reach: rows in the shorter one stay in their order, the others become runs
pub mod Further
-- a floor in the plane has what demand 3 asks of it
pub mod InThePlane
-- shutting, computed: two visits side by side
pub mod Examples

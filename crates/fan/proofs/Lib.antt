-- From lists and counts to the expansion over a floor in the plane, for cells of any corner count.

-- following one line: where it ends, and what is handed on beyond it
pub mod Trees
-- lists: the places of two lists joined, and an element that has a property once
pub mod Places
-- counting: numbers below n that have a property; one fewer where one is lost
pub mod Count
-- counting: tests that share nothing pass together no more than the whole
pub mod Parts
-- over any floor: a whole tree has a row, and its crossings are at most its rows times the fuel
pub mod RowCounts
-- the floor in the plane, of which all laws of sight are proved: faces are lines, cells are convex
pub mod Geometry
-- one direction leaves a cell by at most one side, and strictly later than it came in
pub mod Exit
-- each line handed on is seen, within the limits before, and crossed strictly later
pub mod HandOn
-- so no line of sight enters a cell twice: no walk, and no way down the tree
pub mod Twice
-- so as many crossings as there are other cells are enough: each leaves one fewer to come
pub mod Fuel
-- how the tree grows: the one induction that rows and demand 2 go by
pub mod Tree
-- the stand strictly inside its cell: a direction that meets no corner leaves it by one of its sides
pub mod Start
-- the stand strictly within a free side: such a direction enters one of its two cells, and leaves it by one of its other sides
pub mod WithinSide
-- the lines around a stand of either kind: seen, shared by no direction, and fuel for each
pub mod Around
-- rows below a cone are at most one more than the corners inside it; rows never outnumber corners
pub mod Rows
-- demand 2 below one line: one row holds the direction, and the walk ends at its face
pub mod Demand2
-- the lines around the stand together: nothing is cut, few crossings, and demand 2
pub mod Listing
-- the fan hands on just the parts of the plain definition
pub mod Plain
-- the numbers of a tree are those of its rows
pub mod Written
-- two floors that agree are followed alike
pub mod Agree
-- rows in a table: what stands at a place of the list of rows is read there
pub mod Tables
-- the limits of every row are corners
pub mod Limits
-- lines followed in two parts list as they do at once
pub mod TwoParts

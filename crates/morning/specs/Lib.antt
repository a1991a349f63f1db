-- the listings of several stands one after another; the replies of the whole call
pub mod Morning
-- each stand's listing over the drawn lines of an accepted plan, and room for all
pub mod OverLines

-- which point of a line is nearest, by certificates: the end where the line goes away, else the foot of the perpendicular
pub mod Nearest
-- which point of a line decides whether it is in reach
pub mod Deciding
-- a line in reach has a point in reach and the other way round; from either end; with a longer reach; from within the line; what may be stated
pub mod Reaching
-- the code's numbers: how large they are, and what the casts ask
mod Sizes

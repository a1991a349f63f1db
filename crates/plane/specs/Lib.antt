-- points, the side value, and points within the coordinate limits
pub mod Side
-- the area test and the containment test of one side, by signs of side values
pub mod Tests
-- vectors from the stand, cones, rays and directions
pub mod Cone
-- exactly one of two or three, at most one of three
pub mod One

-- the size of a finite double: where it is whole, and where it is within the limit
mod Size
-- the code's two comparisons: both hold exactly of a finite double within the limits
mod Limits
-- within the limits, a double without its fraction is the double again exactly when nothing was cut off
mod Back
-- a double is accepted as z exactly when it is z and z is within the limits
pub mod Whole
-- single doubles, computed from their bits
pub mod Examples

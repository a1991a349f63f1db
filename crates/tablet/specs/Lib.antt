-- the drawing: replies 1 to 11 as the listing's, 14, or the counts and the offsets
pub mod Drawing

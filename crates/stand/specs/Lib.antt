-- the stand in whole millimetres, or a refusal
pub mod Spot
-- where the stand is: in the least cell that holds it strictly, on the least free side that it is strictly within, or LINE, or OUTSIDE
pub mod Find
-- finding's answer in document 01's numbers
pub mod Reply

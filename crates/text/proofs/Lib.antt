-- numbers in decimal: digit by digit, and how many digits
pub mod Decimals
-- pieces written one behind the other are one piece
pub mod Texts
-- the loop over the rows: the lines written so far
pub mod Rows

-- a word as its bytes
pub mod Word
-- the lines, as their bytes: numbers in decimal, a refusal, the counts, a row
pub mod Text
-- what was written into a text, and where it ends
pub mod Wrote

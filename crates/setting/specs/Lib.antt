-- the setting as a word of bits: shut, with a door shut or opened, wrong, and where sight ends
pub mod Setting

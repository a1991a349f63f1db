-- a double as whole millimetres: what is accepted, and as which number
pub mod Whole

-- one step of the code: what a line or a cell hands on, the room that it takes, and what is written
pub mod Expansion

-- what a call of several stands is refused for
pub mod Asked

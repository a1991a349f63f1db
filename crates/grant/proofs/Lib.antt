-- replies 1 to 7 and 11, way out by way out, and what a call that is granted has
pub mod Grants

-- the floor of the code's tables: corners seen from the stand, four numbers a face, and where each face starts
pub mod Floor
-- where handing on begins
pub mod Narrows
-- what remains to be followed, and what is followed
pub mod Remains

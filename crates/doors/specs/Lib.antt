-- the door change: replies 1 to 13, 15 and 17, or the list under the new setting
pub mod Change

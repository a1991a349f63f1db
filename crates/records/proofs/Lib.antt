-- signed numbers and their two's complements, as std's casts compute them
pub mod Signs
-- how long bytes and records are; two, four and eight bytes; the bytes of a list number by number
pub mod Spelled
-- runs of stores, and the loops that write and read lists
pub mod Stores
-- when a record is refused, and the frame; what is known of framed bytes
pub mod Frames
-- a number written as bytes is read back as that number
pub mod There
-- bytes read as a number are written back as those bytes
pub mod Back
-- framed bytes are exactly three records, one after the other
pub mod Records

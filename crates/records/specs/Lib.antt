-- numbers as bytes and back, signed numbers as complements
pub mod Bytes
-- the 64 bits of eight bytes
pub mod Bits
-- records: a head and a body; the three records of a file, and when bytes are framed
pub mod Record

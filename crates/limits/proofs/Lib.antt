-- a refusal that a call hands on, and answers that are the same
pub mod Handed

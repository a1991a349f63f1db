-- the check before A7, and what 17 means
pub mod Refused

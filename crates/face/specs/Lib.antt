-- the cells that lent tables describe, and the side after a side
pub mod Tables

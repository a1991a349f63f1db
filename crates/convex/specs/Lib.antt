-- shapes, and fractional points strictly inside them
pub mod Shape

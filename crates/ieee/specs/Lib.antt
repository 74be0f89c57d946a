pub mod Range
pub mod Power

pub mod Counts
pub mod Outcomes
pub mod Cleared

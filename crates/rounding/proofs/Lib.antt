pub mod Closest
pub mod Kept
pub mod Rule
pub mod Formats
pub mod Sums
pub mod Cut
pub mod Operations
pub mod Theorem

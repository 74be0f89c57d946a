pub mod Rounding
pub mod Claim

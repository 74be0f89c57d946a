pub mod Verdicts
pub mod Reasons

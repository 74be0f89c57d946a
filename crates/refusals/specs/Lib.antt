pub mod Refusals
pub mod Verdict

pub mod BurstLaws
pub mod Seconds

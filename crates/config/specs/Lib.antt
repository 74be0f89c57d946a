pub mod Durations
pub mod Entries
pub mod Ranges
pub mod Ranged

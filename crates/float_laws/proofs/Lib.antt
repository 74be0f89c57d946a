pub mod MinMax
pub mod TotalOrder
pub mod Intervals
pub mod GearRanges
pub mod Shares
pub mod Durations
pub mod Losses
pub mod Reports

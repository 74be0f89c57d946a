pub mod Station
pub mod StationCode

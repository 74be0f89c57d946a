pub mod Sound
pub mod Reached
pub mod Cut

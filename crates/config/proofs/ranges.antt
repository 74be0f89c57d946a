pub mod Every
pub mod Ranged

pub mod Fresh
pub mod View
pub mod Profiles
pub mod Setters
pub mod Airtime

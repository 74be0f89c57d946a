pub mod Told
pub mod Sends

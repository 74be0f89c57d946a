pub mod Adif
pub mod Reading
pub mod Claim
pub mod AdifCode

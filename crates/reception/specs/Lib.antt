pub mod Reception
pub mod ReceptionCode

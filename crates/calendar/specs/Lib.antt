pub mod Calendar
pub mod Meaning

pub mod Accepted
pub mod Bursting
pub mod Numbers
pub mod Refused

pub mod Held
pub mod HeldCode

pub mod Layout
pub mod Table
pub mod TableCode
pub mod Room
pub mod Find
pub mod FindCode
pub mod Removal
pub mod Recut

pub mod Pick
pub mod Gear
pub mod Floor
pub mod Total

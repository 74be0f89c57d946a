pub mod Narrow
pub mod Exp
pub mod Hold

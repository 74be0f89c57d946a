pub mod ExpRest
pub mod NarrowBounds
pub mod ExpBounds
pub mod Holds

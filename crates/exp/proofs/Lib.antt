pub mod ExpLaws
pub mod NarrowLaws
pub mod NarrowPlace

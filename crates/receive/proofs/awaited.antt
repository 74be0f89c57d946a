pub mod Acked
pub mod Awaited

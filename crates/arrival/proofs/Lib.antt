pub mod Typed
pub mod Growing
pub mod Core
pub mod Sending
pub mod Arriving
pub mod Reading
pub mod Theorem

pub mod Tests
pub mod Steps
pub mod Span
pub mod Bytes
pub mod Little
pub mod Lists
pub mod Text

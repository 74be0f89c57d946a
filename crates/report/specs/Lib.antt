pub mod Report
pub mod Ack

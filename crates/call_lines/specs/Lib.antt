pub mod CallLines
pub mod Names

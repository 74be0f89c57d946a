-- What belongs to no one function: a law of what a line asked.
pub mod Laws

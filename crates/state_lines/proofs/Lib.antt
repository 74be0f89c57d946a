-- What belongs to no one function: laws of lists side by side.
pub mod Laws

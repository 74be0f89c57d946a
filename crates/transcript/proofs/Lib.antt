-- What belongs to no one function: laws of an answer's outcome, and of a frame's bytes in the output.
pub mod Laws

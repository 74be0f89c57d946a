-- What belongs to no one function: laws of the text in a buffer, and of digits.
pub mod Laws
pub mod Texts
pub mod Digits

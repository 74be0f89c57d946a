pub mod Settle
pub mod Outcomes
pub mod OutcomesCode
pub mod AckIn
pub mod AckInCode

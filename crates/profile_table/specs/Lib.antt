pub mod Table
pub mod ProfileLines

pub mod Card
pub mod CardCode
pub mod Claims

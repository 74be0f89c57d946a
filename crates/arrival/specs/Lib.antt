pub mod Channel
pub mod EndToEnd

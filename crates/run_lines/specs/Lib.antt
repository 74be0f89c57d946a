pub mod RunLinesCode
pub mod RunLines

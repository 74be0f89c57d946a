pub mod Exported
pub mod ExportedCode

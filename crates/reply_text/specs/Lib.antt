pub mod CellText
pub mod Spaces
pub mod Text

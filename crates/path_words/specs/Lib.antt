pub mod MaskPaths
pub mod Pairing
pub mod Events

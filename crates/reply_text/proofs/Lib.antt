pub mod Appends
pub mod CellTexts
pub mod ChainTerms
pub mod DegensTexts
pub mod Parts
pub mod RowTexts
pub mod SpacedTexts

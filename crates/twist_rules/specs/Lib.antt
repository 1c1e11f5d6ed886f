pub mod PartSpaces
pub mod PartMaps
pub mod PairBases
pub mod Concluded

pub mod Asking
pub mod CellKeys
pub mod CycleVectors
pub mod Degrees
pub mod Held
pub mod Shown
pub mod SmallKeys
pub mod Vectors

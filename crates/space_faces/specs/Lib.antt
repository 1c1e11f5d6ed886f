pub mod Built
pub mod Boundaries
pub mod CodeBoundaries
pub mod Kept

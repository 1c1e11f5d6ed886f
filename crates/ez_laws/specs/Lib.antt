pub mod Weights
pub mod Sides
pub mod Complexes
pub mod FlowEquations
pub mod LetterSides
pub mod Instances

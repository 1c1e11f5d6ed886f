pub mod Fronts
pub mod Settled
pub mod Ways
pub mod Runs

pub mod Field
pub mod Sums
pub mod Chains
pub mod Normal
pub mod Reduction
pub mod Series
pub mod Flows

pub mod Fronts
pub mod Turning
pub mod Joining
pub mod Folded
pub mod Pair
pub mod Crossing

pub mod Spheres
pub mod Bases
pub mod Meaning
pub mod Faults
pub mod Progress

pub mod Formal
pub mod Places
pub mod Asks
pub mod Faults

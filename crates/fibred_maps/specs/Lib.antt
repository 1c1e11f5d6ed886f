pub mod Fibred
pub mod Joined

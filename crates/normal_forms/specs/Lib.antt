pub mod Built
pub mod Paired

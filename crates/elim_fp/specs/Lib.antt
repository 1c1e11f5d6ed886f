pub mod Rows
pub mod Solving
pub mod Matching
pub mod Tables

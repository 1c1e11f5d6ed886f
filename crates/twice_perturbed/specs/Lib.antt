pub mod Firsts
pub mod Twice

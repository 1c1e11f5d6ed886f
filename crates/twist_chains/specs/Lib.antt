pub mod Bundles
pub mod Fibred

pub mod Pivots
pub mod Lists
pub mod Kernel
pub mod Suspended

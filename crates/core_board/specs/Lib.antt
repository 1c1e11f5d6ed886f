pub mod Boards
pub mod Legality
pub mod Interleavings

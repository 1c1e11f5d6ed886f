pub mod Reading
pub mod OneKey
pub mod Along
pub mod Askers

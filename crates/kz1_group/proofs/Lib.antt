pub mod Places
pub mod Stands
pub mod ListForms
pub mod Magnitudes
pub mod Calls
pub mod Norming
pub mod Faced
pub mod ListFaces

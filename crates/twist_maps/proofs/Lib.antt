pub mod Triangles
pub mod Opens

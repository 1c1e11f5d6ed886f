pub mod Dim
pub mod Forests
pub mod ForestLaws
pub mod Order
pub mod Small
pub mod Laws
pub mod Hashes

pub mod TwistedComplexes
pub mod LeftDegrees
pub mod TwistedProducts
pub mod Assembled

pub mod Values
pub mod RowSpaces
pub mod Places
pub mod Needed
pub mod Lower
pub mod Refused

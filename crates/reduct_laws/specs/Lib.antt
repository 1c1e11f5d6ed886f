pub mod Combinators
pub mod Lists
pub mod Sides
pub mod Shifts
pub mod SideCases
pub mod ShiftGrades
pub mod Edge

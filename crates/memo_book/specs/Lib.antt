pub mod Books
pub mod Kept
pub mod Histories
pub mod Worked

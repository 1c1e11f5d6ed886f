pub mod Shards
pub mod Answers
pub mod Shared
pub mod Whole
pub mod Dealt
pub mod Lent

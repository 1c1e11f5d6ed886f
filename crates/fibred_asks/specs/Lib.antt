pub mod Reached
pub mod Reaches
pub mod Parts
pub mod Seconds
pub mod Totals
pub mod Asked
pub mod Steps
pub mod Transferred

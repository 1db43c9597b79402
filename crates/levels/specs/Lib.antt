pub mod Counts
pub mod Levels

pub mod Differences
pub mod Writes

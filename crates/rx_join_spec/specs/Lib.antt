pub mod StateCheck
pub mod Joins
pub mod Inner

pub mod Aging
pub mod OneSource

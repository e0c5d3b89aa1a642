pub mod Composing
pub mod Joining

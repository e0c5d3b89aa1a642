pub mod Parsing
pub mod Form

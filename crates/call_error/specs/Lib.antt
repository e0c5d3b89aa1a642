pub mod CallErrors
pub mod Positions

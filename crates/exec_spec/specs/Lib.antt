pub mod Access
pub mod Handling
pub mod Performing
pub mod LentBoard

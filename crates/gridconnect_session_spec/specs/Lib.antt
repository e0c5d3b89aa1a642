pub mod Session
pub mod Turn

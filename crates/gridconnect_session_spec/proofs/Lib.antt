pub mod FullLaws
pub mod SessionLaws
pub mod TurnLaws

pub mod ThenLaws

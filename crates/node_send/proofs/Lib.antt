pub mod SendingLaws

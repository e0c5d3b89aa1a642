pub mod Examples
pub mod WritesLaws
pub mod OnlyLaws
pub mod WritingLaws

pub mod ToolLaws
pub mod JoinedLaws

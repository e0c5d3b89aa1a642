pub mod AccessLaws
pub mod ContentsLaws
pub mod HandlingLaws

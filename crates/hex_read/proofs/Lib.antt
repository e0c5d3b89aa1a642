pub mod BackLaws
pub mod Examples
pub mod ReadLaws

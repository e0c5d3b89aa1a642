pub mod Examples
pub mod ByteLaws
pub mod DifferenceLaws
pub mod SearchLaws
pub mod StoreLaws
pub mod FewestLaws

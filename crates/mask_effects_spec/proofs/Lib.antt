pub mod Examples
pub mod StoreLaws
pub mod ReadingLaws
pub mod EffectLaws
pub mod OrderLaws

pub mod PlaceLaws
pub mod LoopLaws
pub mod NumberLaws

pub mod DigitLaws
pub mod Examples
pub mod PlaceLaws
pub mod PutLaws

pub mod SearchLaws
pub mod IdleLaws

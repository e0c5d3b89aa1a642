pub mod ParseLaws
pub mod FormLaws

pub mod Examples
pub mod Bits
pub mod PairLaws
pub mod ListLaws

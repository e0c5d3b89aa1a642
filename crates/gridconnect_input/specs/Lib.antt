pub mod Input
pub mod Newline

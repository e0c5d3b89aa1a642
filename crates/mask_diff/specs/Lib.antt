pub mod Changes
pub mod Numbers

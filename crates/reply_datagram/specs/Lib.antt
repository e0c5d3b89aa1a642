pub mod Replies
pub mod Inquiry

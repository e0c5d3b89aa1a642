pub mod ReplyForms

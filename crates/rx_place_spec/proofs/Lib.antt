pub mod ByteLaws
pub mod Examples

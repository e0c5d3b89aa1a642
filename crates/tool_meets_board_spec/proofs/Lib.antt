pub mod Examples
pub mod NamingLaws
pub mod MeetingLaws

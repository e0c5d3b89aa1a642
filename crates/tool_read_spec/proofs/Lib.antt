pub mod Examples
pub mod KindLaws
pub mod TextLaws
pub mod CompleteLaws
pub mod SoundLaws
pub mod ReadingLaws

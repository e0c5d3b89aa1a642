pub mod Aging
pub mod FreePlaces
pub mod OneSource
pub mod NineTools
pub mod Examples

pub mod Place
pub mod Ticks
pub mod State
pub mod PlaceBytes

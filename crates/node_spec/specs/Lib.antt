pub mod CallerErrors
pub mod DatagramCall
pub mod FrameCall
pub mod TickCall
pub mod NodeOrder

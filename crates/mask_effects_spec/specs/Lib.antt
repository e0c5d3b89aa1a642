pub mod Effects
pub mod AnyOrder

pub mod FrameLaws
pub mod TickLaws

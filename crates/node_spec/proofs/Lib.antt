pub mod CallLaws
pub mod DatagramLaws
pub mod Examples

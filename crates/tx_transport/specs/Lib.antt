pub mod Transport

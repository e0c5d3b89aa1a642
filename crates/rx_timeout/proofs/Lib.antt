pub mod DropFirst

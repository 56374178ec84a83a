pub mod Bodies
pub mod Chunks
pub mod Fields
pub mod Lines

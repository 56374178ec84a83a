pub mod Lines
pub mod Advancing
pub mod Answering

pub mod Quiet
pub mod Lines

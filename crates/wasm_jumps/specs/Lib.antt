pub mod Exits
pub mod Backwards

pub mod Stepping
pub mod Making

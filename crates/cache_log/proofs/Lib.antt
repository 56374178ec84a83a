pub mod Living
pub mod Stepping
pub mod Walks

pub mod Object
pub mod News
pub mod Knows
pub mod Terms
pub mod Living
pub mod Hits
pub mod Waits
pub mod Writes

pub mod Schedule
pub mod Blocks
pub mod OneResult
pub mod Guests

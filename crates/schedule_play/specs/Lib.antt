pub mod Links
pub mod Schedule
pub mod Blocks
pub mod OneResult
pub mod Ready
pub mod Tickets
pub mod Sits
pub mod Scheduled

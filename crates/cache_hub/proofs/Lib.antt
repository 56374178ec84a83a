pub mod Apart
pub mod Passes
pub mod Guests
pub mod Steps
pub mod Waits
pub mod Live

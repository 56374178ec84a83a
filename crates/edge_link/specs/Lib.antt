pub mod Bodies
pub mod Heads
pub mod Laws
pub mod Readings
pub mod Requests
pub mod Responses
pub mod Targets

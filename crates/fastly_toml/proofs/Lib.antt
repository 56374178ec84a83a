pub mod Loops
pub mod Stops
pub mod Places
pub mod Forms

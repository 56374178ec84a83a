pub mod Lines
pub mod Machines
pub mod Again
pub mod Goes
pub mod Found

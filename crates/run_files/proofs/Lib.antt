pub mod Texts
pub mod Machines
pub mod Again
pub mod Found

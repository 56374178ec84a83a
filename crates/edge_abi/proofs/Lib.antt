pub mod Numbers
pub mod Joining
pub mod Quiet

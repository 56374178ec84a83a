pub mod Sent
pub mod Outside
pub mod Next
pub mod Work

pub mod Logs
pub mod Lists
pub mod Seats
pub mod Turning
pub mod Handing
pub mod Closing
pub mod Ending
pub mod Passes

pub mod Later
pub mod Guests
pub mod Pushed
pub mod Both
pub mod Whole
pub mod Sharing

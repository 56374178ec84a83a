pub mod Guests
pub mod Journal

pub mod Guests
pub mod Standings

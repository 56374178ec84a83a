pub mod NewGuests
pub mod Journals

pub mod Ends
pub mod Runs
pub mod Silence
pub mod NewGuests

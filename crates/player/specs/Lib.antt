pub mod Plays
pub mod Tickets
pub mod Runs
pub mod May

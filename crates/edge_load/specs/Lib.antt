pub mod Words
pub mod Load
pub mod Playable
pub mod Told

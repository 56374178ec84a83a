pub mod Holders
pub mod Telling

pub mod Places
pub mod Upto
pub mod Playing

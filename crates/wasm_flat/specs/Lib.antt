pub mod Made
pub mod Touched
pub mod Flat

pub mod Addresses
pub mod Gathered
pub mod Goings
pub mod Listing
pub mod RowSteps
pub mod Short

pub mod Exiting
pub mod Tables

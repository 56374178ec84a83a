pub mod Backends
pub mod Choices
pub mod Gathers
pub mod Rows
pub mod Tables

pub mod Batch
pub mod Reading
pub mod Machine
pub mod Begins

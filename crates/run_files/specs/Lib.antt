pub mod Run
pub mod Reading
pub mod Machine
pub mod Begins

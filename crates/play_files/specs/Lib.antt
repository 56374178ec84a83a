pub mod Requests
pub mod Whole
pub mod Play
pub mod Reading
pub mod Machine
pub mod Begins

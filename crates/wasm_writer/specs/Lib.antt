pub mod Numbers
pub mod Spelled
pub mod Shortest
pub mod Build

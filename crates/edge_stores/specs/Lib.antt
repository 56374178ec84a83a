pub mod Named
pub mod Numbers
pub mod Vectors
pub mod UnderWays
pub mod Stores
pub mod Logs
pub mod Wasi

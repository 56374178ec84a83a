pub mod Callees
pub mod Shared
pub mod Standing

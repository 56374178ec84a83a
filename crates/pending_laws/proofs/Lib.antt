pub mod Handles
pub mod Held
pub mod Naming
pub mod RowsTame

pub mod Types
pub mod Nested
pub mod Locals

pub mod Typed
pub mod Small

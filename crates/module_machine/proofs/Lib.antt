pub mod Callees
pub mod Sharing
pub mod Programs
pub mod Machines
pub mod Imports

mod Settling
mod Preserving
mod Acting
mod Rows
mod Plain
mod Starting
pub mod Lawful

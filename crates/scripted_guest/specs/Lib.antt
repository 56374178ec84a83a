pub mod Script
pub mod Scripted

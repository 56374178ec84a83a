pub mod Wanted
pub mod Kinds
pub mod Tables
pub mod Options
pub mod Replies
pub mod Asks
pub mod Rows

pub mod Replies
pub mod Events
pub mod Readable
pub mod Entries
pub mod Machine

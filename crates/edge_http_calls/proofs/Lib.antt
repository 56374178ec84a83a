pub mod Kept
pub mod OwnReads
pub mod Names

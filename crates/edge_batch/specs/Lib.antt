pub mod Blocks
pub mod Batch
pub mod Shares

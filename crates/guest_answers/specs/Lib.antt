pub mod Wire
pub mod Blocks

pub mod Opcodes
pub mod Grammar
pub mod Decoding
pub mod Reading
pub mod Instructions
pub mod Exact
pub mod FirstFault

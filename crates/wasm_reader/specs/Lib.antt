pub mod Grammar
pub mod Reading
pub mod Sections
pub mod Parts
pub mod FirstFault

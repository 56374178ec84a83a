pub mod Among
pub mod Links

pub mod Parts
pub mod Numbers
pub mod Lines
pub mod Laws
pub mod Before
pub mod Options
pub mod Commas
pub mod ChoiceLaws

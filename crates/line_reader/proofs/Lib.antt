pub mod ByLines
pub mod LineLaws

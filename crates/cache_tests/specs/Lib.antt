pub mod Rows
pub mod AgedRows

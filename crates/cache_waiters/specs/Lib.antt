pub mod Holding
pub mod Stands
pub mod Endings

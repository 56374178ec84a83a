pub mod Segments
pub mod Instances

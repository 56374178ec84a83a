pub mod Rising
pub mod Naming
pub mod Lowered

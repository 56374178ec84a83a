pub mod BodyRuns
pub mod ChunkFronts
pub mod ChunkLaws
pub mod ChunkRuns
pub mod ChunkTells
pub mod Digits
pub mod Lines

pub mod UnderWays
pub mod Fronts
pub mod Heards
pub mod Pieces
pub mod Links

pub mod Log
pub mod Standing
pub mod Rule
pub mod Plays
pub mod Pass

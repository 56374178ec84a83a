pub mod Texts
pub mod Tables
pub mod Fields
pub mod Headers
pub mod Requests
pub mod Responses
pub mod Moves
pub mod Bodies

pub mod Rules
pub mod Text

pub mod Loading
pub mod Text

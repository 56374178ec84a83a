pub mod Next
pub mod Origins
pub mod Services
pub mod Lives
pub mod Guests

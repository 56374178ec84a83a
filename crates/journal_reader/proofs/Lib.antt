pub mod ReplyLaws
pub mod EventLaws
pub mod TicketLaws
pub mod EntryLaws
pub mod Taken
pub mod Again
pub mod Found

pub mod Calls
pub mod Handed
pub mod Surrogates
pub mod RuleNames
pub mod Judging

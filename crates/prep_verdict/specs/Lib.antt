pub mod Rest
pub mod Audited
pub mod Calls

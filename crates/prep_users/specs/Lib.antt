pub mod Accounts
pub mod Claims
pub mod Configured
pub mod Rolls
pub mod Wanting

pub mod Wording
pub mod FaultsText
pub mod Written

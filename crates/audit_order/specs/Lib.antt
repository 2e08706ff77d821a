pub mod Grown
pub mod Growing
pub mod Kept

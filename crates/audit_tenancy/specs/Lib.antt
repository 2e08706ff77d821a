pub mod Hold
pub mod Kept

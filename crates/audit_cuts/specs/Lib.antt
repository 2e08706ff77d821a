pub mod Carried
pub mod Absolute
pub mod Rebasing

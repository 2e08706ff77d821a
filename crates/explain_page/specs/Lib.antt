pub mod Hashed
pub mod Reading

pub mod Explained
pub mod Pages
pub mod Words
pub mod Errors
pub mod Answered

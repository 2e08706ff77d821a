pub mod Gives
pub mod Stays
pub mod Explained
pub mod Calling

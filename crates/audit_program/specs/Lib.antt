pub mod Reads
pub mod Following
pub mod Watched
pub mod Answered
pub mod Deciding
pub mod Horizon
pub mod Pages
pub mod Words

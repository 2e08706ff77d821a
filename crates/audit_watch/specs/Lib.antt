pub mod Watch
pub mod Rest

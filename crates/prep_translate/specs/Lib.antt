pub mod Words
pub mod Renaming
pub mod Frames
pub mod Tallied
pub mod Translating

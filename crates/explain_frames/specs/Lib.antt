pub mod FramesOf
pub mod Counting

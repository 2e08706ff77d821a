pub mod Lengths
pub mod Spelled
pub mod Reading
pub mod Writing
pub mod Commented
